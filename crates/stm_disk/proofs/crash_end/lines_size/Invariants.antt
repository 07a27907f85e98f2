-- So many lines are left, and those so far end here.
use Rattle.std.proofs.Common.{◌≡◌, ◌≤◌, ◌+◌, drop, length}
use Rattle.stm_disk.specs.UnsyncedEnd.{lines_size}
use Rattle.stm_disk.proofs.crash_end.lines_size.Given as goal

abbrev pub invariant-loop-left : goal.invariant-loop-left
invariant-loop-left l =
    (l.at ≤ length l.bytes)
    × (l.at + lines_size l.left (drop l.at l.bytes) ≡ lines_size l.lines l.bytes)

abbrev pub decreases-loop-left : goal.decreases-loop-left
decreases-loop-left l = l.left
