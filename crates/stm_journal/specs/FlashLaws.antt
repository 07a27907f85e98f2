-- When the flashes before the segments are as they were.
use Rattle.std.specs.Prelude.{◌≡◌, ℕ, true, List, length, IsTrue, Contains}
use Rattle.stm_wire.specs.Chip.{ChipData, flash_size, page_of}
use Rattle.stm_wire.specs.Harmless.{SameOutside}
use Rattle.stm_journal.specs.declared.kept.Kept.{Kept}
use Rattle.stm_journal.specs.States.{SegmentData, newest_has, keeps, may_keep, on_newest, keeping}
use Rattle.stm_journal.specs.Flashes.{with_kept_pages, flashes_before_segments}
use Rattle.stm_journal.specs.Fits.{fits_chip, AllKeptFit, AllFit, AllHeld}

-- the newest segment keeps a page more, as the flash holds it
abbrev pub KeepingKeepsFlashes : Type 0
KeepingKeepsFlashes = (chip : ChipData) (stack : List SegmentData) (flash : List ℕ) (kept : Kept)
    → length flash ≡ flash_size chip
    → AllFit chip stack → fits_chip chip kept ≡ true → kept.bytes ≡ page_of chip flash kept.page
    → IsTrue (newest_has (may_keep kept.page) stack)
    → flashes_before_segments chip (on_newest (keeping kept) stack) flash
    ≡ flashes_before_segments chip stack flash

-- the flash changes inside pages that the newest segment keeps
abbrev pub ChangesKeepFlashes : Type 0
ChangesKeepFlashes = (chip : ChipData) (stack : List SegmentData) (changed old new : List ℕ)
    → length old ≡ flash_size chip
    → AllFit chip stack → SameOutside chip changed old new
    → ((n : ℕ) → Contains changed n → IsTrue (newest_has (λ segment. keeps segment n) stack))
    → flashes_before_segments chip stack new ≡ flashes_before_segments chip stack old

-- once the flash holds all that a segment keeps, it is the flash before that segment
abbrev pub HeldIsBefore : Type 0
HeldIsBefore = (chip : ChipData) (segment : SegmentData) (flash : List ℕ)
    → length flash ≡ flash_size chip
    → AllKeptFit chip segment.pages → AllHeld chip segment.pages flash
    → with_kept_pages chip segment flash ≡ flash
