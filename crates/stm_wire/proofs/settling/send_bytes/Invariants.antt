use Rattle.std.proofs.Common.{◌≡◌, ◌-◌, ◌*◌, ℕ, List, replicate}
use Rattle.stm_wire.proofs.Names.{AreUnrefused, Device, GoesOn, IsGoing, KeepsSettling}
use Rattle.stm_wire.proofs.Talking.{Went}
use Rattle.stm_wire.proofs.settling.send_bytes.Given as goal

abbrev pub invariant-loop-sent : goal.invariant-loop-sent
invariant-loop-sent g l = record {
  went : Went (replicate l._sent l.byte) (4099 * l._sent) (g.R.Rig.view l.fn.rig) (g.R.Rig.view l.rig);
  brief : (g.R.Rig.view l.rig).long_gets ≡ (g.R.Rig.view l.fn.rig).long_gets;
  unrefused : GoesOn (AreUnrefused l.byte l._sent) (g.R.Rig.view l.fn.rig).calls (g.R.Rig.view l.rig).calls;
  honest : (g.R.Rig.view l.fn.rig).is_honest → (pages : List ℕ) (start : Device) → IsGoing l.byte pages start l.limit (g.R.Rig.view l.fn.rig).device
      → KeepsSettling l.byte pages start (g.R.Rig.view l.fn.rig) (g.R.Rig.view l.rig) × IsGoing l.byte pages start (l.limit - l._sent) (g.R.Rig.view l.rig).device;
}
