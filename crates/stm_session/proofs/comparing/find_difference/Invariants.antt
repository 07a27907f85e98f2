use Rattle.std.proofs.Common.{◌+◌, ◌-◌}
use Rattle.stm_wire.proofs.Names.{flash_size}
use Rattle.stm_session.proofs.Names.{IsNotBehind}
use Rattle.stm_session.proofs.Comparisons.{IsComparedSoFar}
use Rattle.stm_session.proofs.comparing.find_difference.Given as goal

abbrev pub invariant-loop-block : goal.invariant-loop-block
invariant-loop-block g l = IsComparedSoFar l.chip l.image l.done (g.R.Rig.view l.fn.rig) (g.R.Rig.view l.rig) × IsNotBehind l.chip (l.chip.base + l.done) l.place

abbrev pub decreases-loop-block : goal.decreases-loop-block
decreases-loop-block g l = flash_size l.chip - l.done
