use Rattle.std.proofs.Common.{◌≡◌, ◌++◌, ◌-◌}
use Rattle.std.specs.List.{range_with_len}
use Rattle.stm_words.proofs.pages.add_pages.Given as goal

-- the pages so far
abbrev pub invariant-loop-n : goal.invariant-loop-n
invariant-loop-n l = l.pages.items ≡ l.fn.pages.items ++ range_with_len l.first (l.n - l.first)
