-- The used bytes so far.
use Rattle.std.proofs.Common.{◌≡◌, ◌≤◌, take}
use Rattle.stm_chip.specs.Plan.{used_length}
use Rattle.stm_chip.proofs.plan.used_length.Given as goal

abbrev pub invariant-loop-place : goal.invariant-loop-place
invariant-loop-place l = (l.used ≡ used_length l.erased (take l.place l.block)) × (l.used ≤ l.place)
