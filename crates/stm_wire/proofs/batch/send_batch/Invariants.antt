use Rattle.std.proofs.Common.{◌≡◌, ◌≤◌, ◌+◌, ◌-◌, ℕ, List, replicate}
use Rattle.stm_wire.proofs.Names.{Device, GoesOn, IsGoing, KeepsSettling, Put}
use Rattle.stm_wire.proofs.Going.{InBatch}
use Rattle.stm_wire.proofs.Talking.{Went}
use Rattle.stm_wire.proofs.batch.send_batch.Given as goal

abbrev pub invariant-loop-sent : goal.invariant-loop-sent
invariant-loop-sent g l = record {
  went : Went (replicate l._sent l.byte) l._sent (g.R.Rig.view l.fn.rig) (g.R.Rig.view l.rig);
  brief : (g.R.Rig.view l.rig).long_gets ≡ (g.R.Rig.view l.fn.rig).long_gets;
  copies : GoesOn (λ zs. zs ≡ replicate l._sent (Put l.byte)) (g.R.Rig.view l.fn.rig).calls (g.R.Rig.view l.rig).calls;
  honest : (g.R.Rig.view l.fn.rig).is_honest → (pages : List ℕ) (start : Device) (left : ℕ) → 2 ≤ left
      → IsGoing l.byte pages start (left + l.count) (g.R.Rig.view l.fn.rig).device
      → KeepsSettling l.byte pages start (g.R.Rig.view l.fn.rig) (g.R.Rig.view l.rig)
      × InBatch l.byte pages start (left + (l.count - l._sent)) (521 + l._sent) (g.R.Rig.view l.rig).device;
}
