use Rattle.std.proofs.Common.{◌≡◌, length}
use Rattle.stm_wire.proofs.Names.{erased_pages, flash_size, two_byte_numbers}
use Rattle.stm_sim.proofs.simulator.effect.erase_pairs.Given as goal

abbrev pub invariant-loop-rest : goal.invariant-loop-rest
invariant-loop-rest l = (erased_pages l.chip (two_byte_numbers l.rest) l.flash ≡ erased_pages l.chip (two_byte_numbers l.pages) l.fn.flash) × (length l.flash ≡ flash_size l.chip)

abbrev pub decreases-loop-rest : goal.decreases-loop-rest
decreases-loop-rest l = length l.rest
