use Rattle.stm_session.proofs.Names.{ToldIn}
use Rattle.stm_session.proofs.UndoesOfSegments.{IsBackSoFar}
use Rattle.stm_session.proofs.segments_undo.undo_newest.Given as goal

abbrev pub invariant-loop-i : goal.invariant-loop-i
invariant-loop-i g l = IsBackSoFar l.again l.chip (ToldIn g.R.Rig.view l.fn.journal.is_torn (g.R.Rig.view l.fn.rig) (g.R.Rig.view l.rig)) l.i l.fn.journal l.journal (g.R.Rig.view l.fn.rig) (g.R.Rig.view l.rig)
