use Rattle.std.proofs.Common.{ℕ, List}
use Rattle.stmflash.specs.Confirmation.{HasTyped}
use Rattle.stmflash.proofs.confirmation.read_answer.Given as goal

-- what was taken of the line, and kept of that
abbrev pub invariant-loop : goal.invariant-loop
invariant-loop g l =
    (line : List ℕ)
    × HasTyped (g.I.Read.remaining l.fn.input) (g.I.Read.remaining l.input) line l.answer l.count
