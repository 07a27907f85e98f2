-- The end of a journal that a crash of the PC may have left, where a sector that was never written
-- holds whatever it held before: lines of another file too.
use Rattle.std.specs.Prelude.{◌≡◌, ◌⊎◌, ◌≤◌, ◌-◌, ◌%◌, ◌==◌, ◌&&◌, ℕ, Bool, false, nat_le, nat_lt}
use Rattle.std.specs.Prelude.{List, [], ◌∷◌, length, take, drop, zero, suc, if◌then◌else◌}
use Rattle.std.specs.Prelude.{Option, None, Some}
use Rattle.stm_wire.specs.Chip.{ChipData}
use Rattle.stm_journal.specs.declared.kept.Kept.{Kept}
use Rattle.stm_journal.specs.Fits.{AllFit, fits_chip}
use Rattle.stm_journal.specs.States.{StateData, SegmentData}
use Rattle.stm_journal.specs.Text.{text_of}
use Rattle.stm_journal.specs.Journals.{JournalData, journal_of, good, bad}
use Rattle.stm_disk.specs.Sectors.{sector}

-- how many bytes the first so many lines have, with the LF that ends each
abbrev pub lines_size : ℕ → List ℕ → ℕ
lines_size zero bytes = 0
lines_size (suc n) [] = 0
lines_size (suc n) (b ∷ bytes) =
    if b == 10 then suc (lines_size n bytes) else suc (lines_size (suc n) bytes)

-- how far it is from this place to one where a sector begins
abbrev pub to_sector : ℕ → ℕ
to_sector at = (sector - at % sector) % sector

-- The line at this place has the first byte of a sector: another one stood there than was written.
abbrev pub enters_sector : ℕ → List ℕ → Bool
enters_sector at bytes = nat_lt (to_sector at) (lines_size 1 (drop at bytes))

-- Something stands in front of this line, from it on no more than one append can leave, and a sector
-- begins in it.
abbrev pub may_be_unsynced : ℕ → ℕ → List ℕ → Bool
may_be_unsynced longest at bytes =
    nat_le 1 at && nat_le (length bytes - at) longest && enters_sector at bytes

-- where the text is to be cut before its first bad line
abbrev pub unsynced_end : ℕ → ℕ → List ℕ → Option ℕ
unsynced_end longest line bytes =
    let at = lines_size (line - 1) bytes in
    if may_be_unsynced longest at bytes then Some at else None

-- What a crash may leave of a file of these bytes, of which so many from the first on are synced,
-- whatever stands in the place of the others.
pub record IsLeftOfSynced (synced : ℕ) (seen left : List ℕ) : Type 0 where
  pub least : synced ≤ length left
  pub kept : take synced left ≡ take synced seen

-- the lines of a journal before its first bad one, or all
abbrev pub lines_before_bad : JournalData → List ℕ → List ℕ
lines_before_bad (good s) bytes = bytes
lines_before_bad (bad line) bytes = take (lines_size (line - 1) bytes) bytes

-- one of these pages has this line, and the chip hasn't it in that size
abbrev pub HasMisfit : ChipData → ℕ → List Kept → Type 0
HasMisfit chip line [] = ⊥
HasMisfit chip line (kept ∷ pages) =
    ((kept.line ≡ line) × (fits_chip chip kept ≡ false)) ⊎ HasMisfit chip line pages

-- one of these segments keeps such a page
abbrev pub KeepsMisfit : ChipData → ℕ → List SegmentData → Type 0
KeepsMisfit chip line [] = ⊥
KeepsMisfit chip line (segment ∷ below) =
    HasMisfit chip line segment.pages ⊎ KeepsMisfit chip line below

-- This line keeps such a page, where none before it is bad.
abbrev pub IsMisfitLine : ChipData → ℕ → List ℕ → Type 0
IsMisfitLine chip line bytes = (s : StateData)
    × (journal_of (lines_before_bad (journal_of bytes) bytes) ≡ good s)
    × KeepsMisfit chip line s.stack

-- Whole lines that are synced and come to a good journal, as each that was acknowledged does, stand
-- before the first bad line of what a crash left, and where their pages fit the chip, before each
-- line that keeps one which doesn't.
abbrev pub CutsKeepAcknowledged : Type 0
CutsKeepAcknowledged = (chip : ChipData) (synced n line : ℕ) (seen left : List ℕ) (s : StateData)
    → IsLeftOfSynced synced seen left → n ≤ synced
    → (text_of (take n seen)).tail ≡ [] → journal_of (take n seen) ≡ good s
    → (journal_of left ≡ bad line) ⊎ (AllFit chip s.stack × IsMisfitLine chip line left)
    → (n ≤ lines_size (line - 1) left)
    × (take n (take (lines_size (line - 1) left) left) ≡ take n seen)
