use Rattle.stm_session.proofs.KeptRuns.{run_keeps, run_stops_kept}
use Rattle.stm_session.proofs.laws.a_run_keeps_pages_before_it_changes_them.Goals as goal

pub returns-clause-done : goal.returns-clause-done
returns-clause-done g c table commands old new runs = let V = g.R.Rig.view in run_keeps c.laying_by_parts.ensures.length table commands (V old) (V new) runs

pub returns-clause-stopped : goal.returns-clause-stopped
returns-clause-stopped g c table commands old new fault stops = let V = g.R.Rig.view in run_stops_kept c.laying_by_parts.ensures.length table commands (V old) (V new) fault stops
