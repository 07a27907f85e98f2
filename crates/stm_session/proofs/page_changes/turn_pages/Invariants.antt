use Rattle.stm_session.proofs.Turns.{IsTurnedSoFar}
use Rattle.stm_session.proofs.page_changes.turn_pages.Given as goal

abbrev pub invariant-loop-n : goal.invariant-loop-n
invariant-loop-n g l = IsTurnedSoFar l.chip l.change l.n l.count l.first l.fn.journal l.journal (g.R.Rig.view l.fn.rig) (g.R.Rig.view l.rig)
