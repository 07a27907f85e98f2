use Rattle.std.proofs.Common.{ℕ, ◌≤◌}
use Rattle.std.proofs.lemmas.Result.{IfErr-weaker, IfOk-weaker}
use Rattle.stm_session.proofs.Names.{UndoesInOrder, UndoStops}
use Rattle.stm_weak.specs.Believed.{UndoHeals, UndoStopsHealing}
use Rattle.stm_weak.proofs.undoing.undo_segment.Goals as goal

pub returns-clause-heals : goal.returns-clause-heals
returns-clause-heals g c =
    let V = g.R.Rig.view in
    let table = c.args.table.now in
    let old = c.args.rig.now in
    let new = c.undo.new.rig in
    let Undoes : ℕ → Type 0 = λ taken. 1 ≤ taken → UndoesInOrder table taken (V old) (V new) in
    let Heals : ℕ → Type 0 = λ taken. 1 ≤ taken → UndoHeals table (V old) (V new) in
    IfOk-weaker c.undo.result Undoes Heals
    (λ taken undoes some.
    c.an_undo_believes_no_page_at_work.ensures.done table taken old new (undoes some))
    c.undo.ensures.order

pub returns-clause-stops : goal.returns-clause-stops
returns-clause-stops g c =
    let V = g.R.Rig.view in
    let table = c.args.table.now in
    let old = c.args.rig.now in
    let new = c.undo.new.rig in
    IfErr-weaker c.undo.result (UndoStops table c.args.count (V old) (V new))
    (UndoStopsHealing table (V old) (V new))
    (c.an_undo_believes_no_page_at_work.ensures.stopped table c.args.count old new)
    c.undo.ensures.stops
