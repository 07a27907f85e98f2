use Rattle.std.proofs.Common.{false}
use Rattle.stm_session.proofs.Names.{AreGivenBackTold, AreTakenTold, AreTakenWhole, AreUndoneInOrder, ToldBy, untold}
use Rattle.stm_session.proofs.KeptUndoes.{undo_does_as}
use Rattle.stm_session.proofs.Untold.{given_in_order, stops_in_order}
use Rattle.stm_session.proofs.undoing.undo.Goals as goal

pub returns-in-Ok-clause-order : goal.returns-in-Ok-clause-order
returns-in-Ok-clause-order g c some =
    let V = g.R.Rig.view in
    let returned = c.in-Ok.returned in
    let a = V c.args.rig.now in
    let b = V c.undo_as.new.rig in
    undo_does_as c.args.table.now a b (AreTakenWhole false untold returned) (AreUndoneInOrder false returned.segments) (λ chip s steps are. are.0) (given_in_order V false c.args.table.now returned a b (c.in-Ok.ensures.given some))

pub returns-in-Err-clause-stops : goal.returns-in-Err-clause-stops
returns-in-Err-clause-stops g c = let V = g.R.Rig.view in stops_in_order V false c.args.table.now c.args.count (V c.args.rig.now) (V c.undo_as.new.rig) c.in-Err.fault c.in-Err.ensures.given_stops

pub returns-in-Ok-clause-given : goal.returns-in-Ok-clause-given
returns-in-Ok-clause-given g c some =
    let V = g.R.Rig.view in
    let returned = c.in-Ok.returned in
    let Told = ToldBy V (V c.args.rig.now) (V c.undo_as.new.rig) in
    undo_does_as c.args.table.now (V c.args.rig.now) (V c.undo_as.new.rig) (AreGivenBackTold false Told returned) (AreTakenTold Told returned.segments) (λ chip s steps are. are.0) (c.in-Ok.ensures.given some)
