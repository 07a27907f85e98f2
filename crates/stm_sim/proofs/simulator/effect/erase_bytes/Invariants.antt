use Rattle.std.proofs.Common.{◌≡◌, length, drop}
use Rattle.stm_wire.proofs.Names.{erased_pages, flash_size}
use Rattle.stm_sim.proofs.simulator.effect.erase_bytes.Given as goal

abbrev pub invariant-loop-page : goal.invariant-loop-page
invariant-loop-page l = (erased_pages l.chip (drop l.page-index l.pages) l.flash ≡ erased_pages l.chip l.pages l.fn.flash) × (length l.flash ≡ flash_size l.chip)
