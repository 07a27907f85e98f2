-- The flash before each command that a journal has a segment for.
use Rattle.std.specs.Prelude.{◌≡◌, ℕ, ◌+◌, ◌-◌, ◌≤◌, List, [], ◌∷◌, length, take, fold, slice_get}
use Rattle.std.specs.Prelude.{Some}
use Rattle.stm_wire.specs.Chip.{ChipData, page_offset, with_bytes}
use Rattle.stm_journal.specs.States.{SegmentData}

-- the flash with a segment's kept pages put back, in the order of their lines
abbrev pub with_kept_pages : ChipData → SegmentData → List ℕ → List ℕ
with_kept_pages chip segment flash =
    fold (λ f k. with_bytes (page_offset chip k.page) k.bytes f) flash segment.pages

-- the flash before segment k, the oldest of which is 1: the kept pages of the segments from the
-- newest down to k, put back
abbrev pub flash_before : ChipData → List SegmentData → ℕ → List ℕ → List ℕ
flash_before chip stack k flash =
    fold (λ f segment. with_kept_pages chip segment f) flash (take (length stack + 1 - k) stack)

-- the flash before each segment, that before the newest first
abbrev pub flashes_before_segments : ChipData → List SegmentData → List ℕ → List (List ℕ)
flashes_before_segments chip [] flash = []
flashes_before_segments chip (segment ∷ below) flash =
    with_kept_pages chip segment flash
    ∷ flashes_before_segments chip below (with_kept_pages chip segment flash)

-- both say the same of each segment
abbrev pub FlashesAreThose : Type 0
FlashesAreThose = (chip : ChipData) (stack : List SegmentData) (flash : List ℕ) (k : ℕ) → 1 ≤ k
    → k ≤ length stack
    → slice_get (flashes_before_segments chip stack flash) (length stack - k)
    ≡ Some (flash_before chip stack k flash)
