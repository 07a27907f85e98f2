use Rattle.std.proofs.Common.{◌≡◌, length}
use Rattle.stm_wire.proofs.Names.{two_byte_numbers}
use Rattle.stm_watch.specs.Known.{erased_known}
use Rattle.stm_watch.proofs.change.erase_pairs.Given as goal

abbrev pub invariant-loop-rest : goal.invariant-loop-rest
invariant-loop-rest l =
    (erased_known l.chip (two_byte_numbers l.rest) l.flash
    ≡ erased_known l.chip (two_byte_numbers l.pages) l.fn.flash)
    × (length l.flash ≡ length l.fn.flash)

abbrev pub decreases-loop-rest : goal.decreases-loop-rest
decreases-loop-rest l = length l.rest
