use Rattle.std.proofs.Common.{◌≡◌, ◌≤◌, ◌-◌, ◌*◌, ℕ, List, false, replicate}
use Rattle.stm_wire.proofs.Names.{AreBatches, Device, GoesOn, IsGoing, KeepsSettling}
use Rattle.stm_wire.proofs.Talking.{Went}
use Rattle.stm_wire.proofs.batch.send_batches.Given as goal

abbrev pub invariant-loop-left : goal.invariant-loop-left
invariant-loop-left g l = record {
  within : l.left ≤ l.limit;
  went : Went (replicate (l.limit - l.left) l.byte) (4099 * (l.limit - l.left)) (g.R.Rig.view l.fn.rig) (g.R.Rig.view l.rig);
  brief : (g.R.Rig.view l.rig).long_gets ≡ (g.R.Rig.view l.fn.rig).long_gets;
  batches : GoesOn (AreBatches l.byte l.limit l.left false) (g.R.Rig.view l.fn.rig).calls (g.R.Rig.view l.rig).calls;
  honest : (g.R.Rig.view l.fn.rig).is_honest → (pages : List ℕ) (start : Device) → IsGoing l.byte pages start l.limit (g.R.Rig.view l.fn.rig).device
      → KeepsSettling l.byte pages start (g.R.Rig.view l.fn.rig) (g.R.Rig.view l.rig) × IsGoing l.byte pages start l.left (g.R.Rig.view l.rig).device;
}

abbrev pub decreases-loop-left : goal.decreases-loop-left
decreases-loop-left g l = l.left
