-- The pages so far are those touched among the pages so far, and the offset is that of the next page.
use Rattle.std.proofs.Common.{◌≡◌}
use Rattle.stm_wire.proofs.Names.{page_offset}
use Rattle.stm_chip.specs.Touch.{TouchedBelow}
use Rattle.stm_chip.proofs.touch.touched.Given as goal

abbrev pub invariant-loop-n : goal.invariant-loop-n
invariant-loop-n l = record { pages : TouchedBelow l.chip l.image l.n l.pages.items; offset_is : l.offset ≡ page_offset l.chip l.n }
