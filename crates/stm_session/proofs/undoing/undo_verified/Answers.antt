use Rattle.std.proofs.Common.{◌≤◌, true}
use Rattle.std.proofs.lemmas.Result.{IfErr-weaker, IfOk-weaker}
use Rattle.stm_session.proofs.Names.{GivesBackInOrder, GivesBackTold, UndoStopsAs, UndoStopsToldAs}
use Rattle.stm_session.proofs.Untold.{given_in_order, stops_in_order}
use Rattle.stm_session.proofs.undoing.undo_verified.Goals as goal

pub returns-clause-order : goal.returns-clause-order
returns-clause-order g c =
    let V = g.R.Rig.view in
    let a = V c.args.rig.now in
    let b = V c.undo_as.new.rig in
    let table = c.args.table.now in
    IfOk-weaker c.undo_as.result (λ r. 1 ≤ r.segments → GivesBackTold V true table r a b) (λ r. 1 ≤ r.segments → GivesBackInOrder true table r a b)
    (λ r given some. given_in_order V true table r a b (given some)) c.undo_as.ensures.given

pub returns-clause-stops : goal.returns-clause-stops
returns-clause-stops g c =
    let V = g.R.Rig.view in
    let a = V c.args.rig.now in
    let b = V c.undo_as.new.rig in
    let table = c.args.table.now in
    IfErr-weaker c.undo_as.result (UndoStopsToldAs V true table c.args.count a b) (UndoStopsAs true table c.args.count a b)
    (λ fault stops. stops_in_order V true table c.args.count a b fault stops) c.undo_as.ensures.given_stops
