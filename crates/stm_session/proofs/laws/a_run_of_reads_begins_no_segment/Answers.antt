use Rattle.stm_session.proofs.ReadRuns.{reads_only}
use Rattle.stm_session.proofs.laws.a_run_of_reads_begins_no_segment.Goals as goal

pub returns : goal.returns
returns g c commands flashes old new result all finished runs =
    reads_only commands flashes (g.R.Rig.view old) (g.R.Rig.view new) result (λ report. report.outcomes.items) all finished runs
