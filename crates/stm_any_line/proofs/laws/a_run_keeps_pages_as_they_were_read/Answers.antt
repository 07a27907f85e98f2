use Rattle.stm_any_line.proofs.Clauses.{run_does, run_stops_do}
use Rattle.stm_any_line.proofs.laws.a_run_keeps_pages_as_they_were_read.Goals as goal

pub returns-clause-done : goal.returns-clause-done
returns-clause-done g c table commands old new calls before ran made =
    let V = g.R.Rig.view in
    run_does c.laying_by_parts.ensures.length table commands (V old) (V new) calls before ran made

pub returns-clause-stopped : goal.returns-clause-stopped
returns-clause-stopped g c table commands old new fault calls before chip l stop own made =
    let V = g.R.Rig.view in
    run_stops_do c.laying_by_parts.ensures.length table commands (V old) (V new) fault calls before
    chip l stop own made
