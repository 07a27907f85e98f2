-- What a journal keeps of the pages that are changed, step by step: which frames and lines may come
-- behind which, and which bytes a line may keep.
use Rattle.std.specs.Prelude.{◌≡◌, ℕ, List, [], ◌∷◌, ◌++◌, length}
use Rattle.stm_wire.specs.Chip.{ChipData, page_size}
use Rattle.stm_wire.specs.Dialogue.{Turn}
use Rattle.stm_wire.specs.Frames.{get_id_turns, get_turns, read_turns}
use Rattle.stm_wire.specs.Refused.{IsRefusedRead}
use Rattle.stm_journal.specs.declared.entry.Entry.{Entry}
use Rattle.stm_journal.specs.declared.entry.Entry.TheVariants.{Names, Opens, Keeps, Erases}
use Rattle.stm_journal.specs.declared.entry.Entry.TheVariants.{Programs, Ends, Undoes}
use Rattle.stm_session.specs.Kept.{MaySend}
use Rattle.stm_session.specs.Order.{Step, Adds, Sends, page_reads}
use Rattle.stm_any_line.specs.Segments.{SavedPage, IsNewest, segments_behind, segments_behind_lines}

-- A frame that asks which commands a device has, or what it is, or is refused; or that reads, or
-- changes a page of which this holds.
pub data MayPut (chip : ChipData) (P : ℕ → Type 0) (turns : List Turn) : Type 0 where
  asks : (version : ℕ) (codes : List ℕ) → turns ≡ get_turns version codes → MayPut chip P turns
  names : (high low : ℕ) → turns ≡ get_id_turns high low → MayPut chip P turns
  refused : (address size : ℕ) (frame : List ℕ) → IsRefusedRead address size frame turns
      → MayPut chip P turns
  sends : MaySend chip P turns → MayPut chip P turns

-- steps that send nothing but frames that read
abbrev pub SendReads : List Step → Type 0
SendReads [] = Unit {0}
SendReads (Adds entries ∷ steps) = SendReads steps
SendReads (Sends turns ∷ steps) =
    ((address : ℕ) × (answer : List ℕ) × (turns ≡ read_turns address answer)) × SendReads steps

-- Page n was read whole, and these bytes came; and since then nothing was sent but reads.
pub record IsJustRead (chip : ChipData) (n : ℕ) (bytes : List ℕ)
    (before : List Step) : Type 0 where
  pub size : length bytes ≡ page_size chip n
  pub earlier : List Step
  pub since : List Step
  pub only_reads : SendReads since
  pub is : before ≡ earlier ++ (page_reads chip n bytes ++ since)

-- A line that may come behind these steps, where the lines so far keep these segments: a page is
-- kept with the bytes that just came, and only what the newest segment keeps is said to be changed.
abbrev pub MaySay : ChipData → List (List SavedPage) → List Step → Entry → Type 0
MaySay chip segments before (Names version id unique) = Unit {0}
MaySay chip segments before (Opens number) = Unit {0}
MaySay chip segments before (Keeps n bytes) = IsJustRead chip n bytes before
MaySay chip segments before (Erases n) = IsNewest n segments
MaySay chip segments before (Programs n) = IsNewest n segments
MaySay chip segments before (Ends number) = Unit {0}
MaySay chip segments before (Undoes number) = Unit {0}

abbrev pub MaySayAll : ChipData → List (List SavedPage) → List Step → List Entry → Type 0
MaySayAll chip segments before [] = Unit {0}
MaySayAll chip segments before (entry ∷ entries) =
    MaySay chip segments before entry
    × MaySayAll chip (segments_behind segments entry) before entries

-- Steps that may come behind those before them: each line is such, and each frame asks, reads, or
-- changes a page that the newest segment keeps by then.
abbrev pub Tracks : ChipData → List (List SavedPage) → List Step → List Step → Type 0
Tracks chip segments before [] = Unit {0}
Tracks chip segments before (Adds entries ∷ steps) =
    MaySayAll chip segments before entries
    × Tracks chip (segments_behind_lines segments entries) (before ++ Adds entries ∷ []) steps
Tracks chip segments before (Sends turns ∷ steps) =
    MayPut chip (λ n. IsNewest n segments) turns
    × Tracks chip segments (before ++ Sends turns ∷ []) steps
