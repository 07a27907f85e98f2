use Rattle.std.proofs.Common.{◌≡◌, ℕ, List, []}
use Rattle.stm_wire.proofs.Names.{Device, GoesOn, IsSettling, KeepsSettling}
use Rattle.stm_wire.proofs.Keeping.{IsTaken}
use Rattle.stm_wire.proofs.SettlingCalls.{TookSoFar}
use Rattle.stm_wire.proofs.Talking.{Went}
use Rattle.stm_wire.proofs.draining.drain.Given as goal

abbrev pub invariant-loop-taken : goal.invariant-loop-taken
invariant-loop-taken g l = record {
  went : Went [] l._taken (g.R.Rig.view l.fn.rig) (g.R.Rig.view l.rig);
  brief : (g.R.Rig.view l.rig).long_gets ≡ (g.R.Rig.view l.fn.rig).long_gets;
  took : GoesOn (TookSoFar l._taken l.seen) (g.R.Rig.view l.fn.rig).calls (g.R.Rig.view l.rig).calls;
  honest : (g.R.Rig.view l.fn.rig).is_honest → (g.R.Rig.view l.rig).is_honest;
  taken : (g.R.Rig.view l.fn.rig).is_honest → IsTaken l._taken (g.R.Rig.view l.fn.rig).device (g.R.Rig.view l.rig).device;
  keeps : (g.R.Rig.view l.fn.rig).is_honest → (byte : ℕ) (pages : List ℕ) (start : Device) → IsSettling byte pages start (g.R.Rig.view l.fn.rig).device
      → KeepsSettling byte pages start (g.R.Rig.view l.fn.rig) (g.R.Rig.view l.rig);
}
