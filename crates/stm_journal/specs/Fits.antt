-- Kept pages that a chip has.
use Rattle.std.specs.Prelude.{◌≡◌, ℕ, Bool, true, ◌&&◌, ◌==◌, nat_lt, List, [], ◌∷◌, length}
use Rattle.stm_wire.specs.Chip.{ChipData, page_count, page_size, page_of}
use Rattle.stm_journal.specs.declared.kept.Kept.{Kept}
use Rattle.stm_journal.specs.States.{SegmentData}

-- the chip has this page, of this size
abbrev pub fits_chip : ChipData → Kept → Bool
fits_chip chip kept =
    nat_lt kept.page (page_count chip) && (length kept.bytes == page_size chip kept.page)

-- the chip has each of these pages, of the size in which it is kept
abbrev pub AllKeptFit : ChipData → List Kept → Type 0
AllKeptFit chip [] = Unit {0}
AllKeptFit chip (kept ∷ pages) = (fits_chip chip kept ≡ true) × AllKeptFit chip pages

-- the chip has each page that these segments keep, of the size in which it is kept
abbrev pub AllFit : ChipData → List SegmentData → Type 0
AllFit chip [] = Unit {0}
AllFit chip (segment ∷ below) = AllKeptFit chip segment.pages × AllFit chip below

-- each of these pages of the flash is what is kept
abbrev pub AllHeld : ChipData → List Kept → List ℕ → Type 0
AllHeld chip [] flash = Unit {0}
AllHeld chip (kept ∷ pages) flash =
    (page_of chip flash kept.page ≡ kept.bytes) × AllHeld chip pages flash
