-- The total so far is that of the pages so far, and within the limit.
use Rattle.std.proofs.Common.{◌≡◌, ◌≤◌, sum, take}
use Rattle.stm_wire.proofs.chip.flash_size_of.Given as goal

abbrev pub invariant-loop-size : goal.invariant-loop-size
invariant-loop-size l = (l.total ≡ sum (take l.size-index l.sizes)) × (l.total ≤ 2097152)
