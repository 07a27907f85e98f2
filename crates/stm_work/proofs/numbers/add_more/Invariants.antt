use Rattle.std.proofs.Common.{◌≡◌, ◌++◌, take}
use Rattle.stm_work.specs.Numbers.{more_text}
use Rattle.stm_work.proofs.numbers.add_more.Given as goal

-- the numbers so far are added
abbrev pub invariant-loop-number : goal.invariant-loop-number
invariant-loop-number l =
    l.out.items ≡ l.fn.out.items ++ more_text l.between (take l.number-index l.numbers)
