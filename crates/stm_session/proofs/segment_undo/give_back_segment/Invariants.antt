use Rattle.stm_session.proofs.Names.{ToldIn}
use Rattle.stm_session.proofs.UndoPuts.{IsGivenBackSoFar}
use Rattle.stm_session.proofs.segment_undo.give_back_segment.Given as goal

abbrev pub invariant-loop-i : goal.invariant-loop-i
invariant-loop-i g l =
    IsGivenBackSoFar l.again l.chip (ToldIn g.R.Rig.view l.fn.journal.is_torn (g.R.Rig.view l.fn.rig) (g.R.Rig.view l.rig)) l.i l.fn.journal l.journal (g.R.Rig.view l.fn.rig) (g.R.Rig.view l.rig)
