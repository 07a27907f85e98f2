use Rattle.std.proofs.Common.{take}
use Rattle.stm_session.proofs.DeedRuns.{IsDoneSoFar}
use Rattle.stm_session.proofs.deeds.perform.Given as goal

abbrev pub invariant-loop-deed : goal.invariant-loop-deed
invariant-loop-deed g l = IsDoneSoFar l.chip (take l.deed-index l.deeds) l.fn.journal l.journal (g.R.Rig.view l.fn.rig) (g.R.Rig.view l.rig)
