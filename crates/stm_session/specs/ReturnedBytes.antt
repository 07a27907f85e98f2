-- How many bytes an undo returns, and how many segments.
use Rattle.std.specs.Prelude.{ℕ, zero, suc, ◌+◌, List, [], ◌∷◌, Result, Ok, Err}
use Rattle.stm_wire.specs.Chip.{ChipData, page_size}
use Rattle.stm_journal.specs.declared.kept.Kept.{Kept}
use Rattle.stm_session.specs.declared.fault.Fault.{Fault}
use Rattle.stm_session.specs.declared.returned.Returned.{Returned}

-- how many bytes these pages have together
abbrev pub bytes_of_pages : ChipData → List Kept → ℕ
bytes_of_pages chip [] = 0
bytes_of_pages chip (kept ∷ pages) = page_size chip kept.page + bytes_of_pages chip pages

-- and the pages of the newest segments, so many of these
abbrev pub kept_bytes : ChipData → ℕ → List (List Kept) → ℕ
kept_bytes chip zero segments = 0
kept_bytes chip (suc taken) [] = 0
kept_bytes chip (suc taken) (pages ∷ below) =
    bytes_of_pages chip pages + kept_bytes chip taken below

-- what an undo answers that tells just its segments
abbrev pub segments_of : Result Returned Fault → Result ℕ Fault
segments_of (Ok returned) = Ok returned.segments
segments_of (Err fault) = Err fault
