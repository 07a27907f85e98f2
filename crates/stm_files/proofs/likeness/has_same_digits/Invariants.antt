use Rattle.std.proofs.Common.{◌≤◌, ◌-◌}
use Rattle.stm_files.proofs.likeness.has_same_digits.Given as goal

abbrev pub invariant-loop-done : goal.invariant-loop-done
invariant-loop-done g l = l.done ≤ l.size

abbrev pub decreases-loop-done : goal.decreases-loop-done
decreases-loop-done g l = l.size - l.done
