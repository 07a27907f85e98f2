use Rattle.std.proofs.Common.{◌≡◌, length, drop}
use Rattle.stm_watch.specs.Known.{erased_known}
use Rattle.stm_watch.proofs.change.erase_bytes.Given as goal

abbrev pub invariant-loop-page : goal.invariant-loop-page
invariant-loop-page l =
    (erased_known l.chip (drop l.page-index l.pages) l.flash
    ≡ erased_known l.chip l.pages l.fn.flash)
    × (length l.flash ≡ length l.fn.flash)
