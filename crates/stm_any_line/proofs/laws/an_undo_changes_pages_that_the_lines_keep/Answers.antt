use Rattle.stm_any_line.proofs.Clauses.{undo_does, undo_stops_do}
use Rattle.stm_any_line.proofs.laws.an_undo_changes_pages_that_the_lines_keep.Goals as goal

pub returns-clause-done : goal.returns-clause-done
returns-clause-done g c table old new calls before tail undid loaded made =
    let V = g.R.Rig.view in
    undo_does table (V old) (V new) calls before tail undid loaded made

pub returns-clause-stopped : goal.returns-clause-stopped
returns-clause-stopped g c table old new fault calls before tail chip l stop own loaded made =
    let V = g.R.Rig.view in
    undo_stops_do table (V old) (V new) fault calls before tail chip l stop own loaded made
