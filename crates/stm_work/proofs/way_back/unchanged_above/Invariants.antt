use Rattle.std.proofs.Common.{◌≡◌, ◌+◌}
use Rattle.std.specs.List.{range_with_len}
use Rattle.stm_work.specs.WayBack.{unchanged_in}
use Rattle.stm_work.proofs.way_back.unchanged_above.Given as goal

-- those of the segments so far that changed nothing
abbrev pub invariant-loop-i : goal.invariant-loop-i
invariant-loop-i l =
    l.numbers.items ≡ unchanged_in l.journal.state (range_with_len (l.left + 1) l.i)
