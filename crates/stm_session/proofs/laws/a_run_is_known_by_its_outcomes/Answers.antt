use Rattle.stm_session.proofs.ToldRuns.{outcomes-are-the-run}
use Rattle.stm_session.proofs.laws.a_run_is_known_by_its_outcomes.Goals as goal

pub returns : goal.returns
returns g c = outcomes-are-the-run g.R.Rig.view
