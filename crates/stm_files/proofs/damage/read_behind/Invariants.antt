use Rattle.stm_files.proofs.Damages.{IsRead}
use Rattle.stm_files.proofs.damage.read_behind.Given as goal

abbrev pub invariant-loop-i : goal.invariant-loop-i
invariant-loop-i g l = (g.L.Rig.view l.fn.rig).is_honest → IsRead l.at l.i l.line.items (g.L.Rig.view l.fn.rig) (g.L.Rig.view l.rig)
