use Rattle.std.proofs.Common.{true, false}
use Rattle.stm_session.proofs.KeptUndoes.{return_puts_back, undo_puts_back, undo_stops_back}
use Rattle.stm_session.proofs.laws.an_undo_changes_only_pages_that_it_undoes.Goals as goal

pub returns-clause-done : goal.returns-clause-done
returns-clause-done g c table taken old new undoes = let V = g.R.Rig.view in undo_puts_back table taken (V old) (V new) undoes

pub returns-clause-stopped : goal.returns-clause-stopped
returns-clause-stopped g c table count old new fault stops = let V = g.R.Rig.view in undo_stops_back false table count (V old) (V new) fault stops

pub returns-clause-verified : goal.returns-clause-verified
returns-clause-verified g c table returned old new undoes = let V = g.R.Rig.view in return_puts_back true table returned (V old) (V new) undoes

pub returns-clause-verified_stopped : goal.returns-clause-verified_stopped
returns-clause-verified_stopped g c table count old new fault stops = let V = g.R.Rig.view in undo_stops_back true table count (V old) (V new) fault stops
