use Rattle.std.proofs.Common.{true, false}
use Rattle.stm_weak.proofs.Clauses.{undo_heals, undo_stops_healing, verified_heals}
use Rattle.stm_weak.proofs.laws.an_undo_believes_no_page_at_work.Goals as goal

pub returns-clause-done : goal.returns-clause-done
returns-clause-done g c table taken old new undid =
    let V = g.R.Rig.view in
    undo_heals table taken (V old) (V new) undid

pub returns-clause-stopped : goal.returns-clause-stopped
returns-clause-stopped g c table count old new fault stop =
    let V = g.R.Rig.view in
    undo_stops_healing false table count (V old) (V new) fault stop

pub returns-clause-verified : goal.returns-clause-verified
returns-clause-verified g c table returned old new undid =
    let V = g.R.Rig.view in
    verified_heals table returned (V old) (V new) undid

pub returns-clause-verified_stopped : goal.returns-clause-verified_stopped
returns-clause-verified_stopped g c table count old new fault stop =
    let V = g.R.Rig.view in
    undo_stops_healing true table count (V old) (V new) fault stop
