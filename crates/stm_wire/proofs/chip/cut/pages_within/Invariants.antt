-- The pages so far lie inside, and so many bytes are left for the others.
use Rattle.std.proofs.Common.{◌≡◌, ◌+◌, drop}
use Rattle.stm_wire.proofs.Names.{pages_within}
use Rattle.stm_wire.proofs.chip.cut.pages_within.Given as goal

abbrev pub invariant-loop-size : goal.invariant-loop-size
invariant-loop-size l =
    (l.within ≡ l.size-index)
    × (l.within + pages_within (drop l.size-index l.sizes) l.left ≡ pages_within l.sizes l.bytes)
