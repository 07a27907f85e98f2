-- What the journal kept of a page before it was changed is still kept, on any line: which frames
-- may come behind which lines.
use Rattle.std.specs.Prelude.{◌≡◌, ℕ, ◌+◌, ◌≤◌, List, [], ◌∷◌, length, map, Contains}
use Rattle.std.specs.Prelude.{Option, Some, None}
use Rattle.stm_wire.specs.Chip.{ChipData, page_size}
use Rattle.stm_wire.specs.Dialogue.{Turn}
use Rattle.stm_wire.specs.Frames.{erase_turns, read_turns, write_turns}
use Rattle.stm_wire.specs.declared.places.UniquePlace.{UniquePlace}
use Rattle.stm_wire.specs.Rig.{RigState}
use Rattle.stm_journal.specs.declared.entry.Entry.{Entry}
use Rattle.stm_journal.specs.declared.entry.Entry.TheVariants.{Names, Opens, Keeps, Erases}
use Rattle.stm_journal.specs.declared.entry.Entry.TheVariants.{Programs, Ends, Undoes}
use Rattle.stm_journal.specs.declared.kept.Kept.{Kept}
use Rattle.stm_journal.specs.Newest.{pages_of_segments}
use Rattle.stm_session.specs.declared.fault.Fault.{Fault}
use Rattle.stm_session.specs.Closing.{IsLook}
use Rattle.stm_session.specs.Order.{Step, Adds, Sends, page_address}
use Rattle.stm_session.specs.Reaching.{StepsOf}
use Rattle.stm_session.specs.UndoOrder.{UndoDoes, UndoDoesInPart}
use Rattle.stm_session.specs.RunOrder.{RunDoes, RunDoesInPart}

-- Of a run. While a segment is begun and not ended, there are the pages that its lines keep:

abbrev pub IsKept : ℕ → Option (List ℕ) → Type 0
IsKept n None = ⊥
IsKept n (Some pages) = Contains pages n

-- those behind a line
abbrev pub kept_behind : Option (List ℕ) → Entry → Option (List ℕ)
kept_behind kept (Opens number) = Some []
kept_behind (Some pages) (Keeps n bytes) = Some (n ∷ pages)
kept_behind kept (Ends number) = None
kept_behind kept _ = kept

abbrev pub kept_behind_lines : Option (List ℕ) → List Entry → Option (List ℕ)
kept_behind_lines kept [] = kept
kept_behind_lines kept (entry ∷ entries) = kept_behind_lines (kept_behind kept entry) entries

-- and behind steps
abbrev pub kept_behind_steps : Option (List ℕ) → List Step → Option (List ℕ)
kept_behind_steps kept [] = kept
kept_behind_steps kept (Adds entries ∷ steps) =
    kept_behind_steps (kept_behind_lines kept entries) steps
kept_behind_steps kept (Sends turns ∷ steps) = kept_behind_steps kept steps

-- A line that may come next: a segment begins where none is unfinished, and only what it
-- keeps is said to be changed.
abbrev pub MayAdd : Option (List ℕ) → Entry → Type 0
MayAdd None (Names version id unique) = Unit {0}
MayAdd None (Opens number) = Unit {0}
MayAdd (Some pages) (Keeps n bytes) = Unit {0}
MayAdd (Some pages) (Erases n) = Contains pages n
MayAdd (Some pages) (Programs n) = Contains pages n
MayAdd (Some pages) (Ends number) = Unit {0}
MayAdd _ _ = ⊥

abbrev pub MayAddAll : Option (List ℕ) → List Entry → Type 0
MayAddAll kept [] = Unit {0}
MayAddAll kept (entry ∷ entries) = MayAdd kept entry × MayAddAll (kept_behind kept entry) entries

-- A frame that changes nothing but pages of which this holds: it reads; or it asks which board the
-- device is; or it erases such a page; or it writes some bytes into one.
pub data MaySend (chip : ChipData) (P : ℕ → Type 0) (turns : List Turn) : Type 0 where
  reads : (address : ℕ) (answer : List ℕ) → turns ≡ read_turns address answer → MaySend chip P turns
  looks : (place : UniquePlace) → IsLook place turns → MaySend chip P turns
  erases : (n : ℕ) → P n → turns ≡ erase_turns chip.kind n → MaySend chip P turns
  writes : (n offset : ℕ) (bytes : List ℕ) → P n → 1 ≤ length bytes
      → offset + length bytes ≤ page_size chip n
      → turns ≡ write_turns (page_address chip n + offset) bytes → MaySend chip P turns

-- Each step may come behind those before it: what is erased or written, and each intent's line, is
-- of a page that the unfinished segment has kept by then.
abbrev pub KeepsFirst : ChipData → Option (List ℕ) → List Step → Type 0
KeepsFirst chip kept [] = Unit {0}
KeepsFirst chip kept (Adds entries ∷ steps) =
    MayAddAll kept entries × KeepsFirst chip (kept_behind_lines kept entries) steps
KeepsFirst chip kept (Sends turns ∷ steps) =
    MaySend chip (λ n. IsKept n kept) turns × KeepsFirst chip kept steps

-- a run, at Ok: its steps are such, and none of its segments is left unfinished
abbrev pub RunKeeps : List ChipData → RigState → RigState → Type 0
RunKeeps table old new = RunDoes (λ chip s steps. KeepsFirst chip None steps
    × (kept_behind_steps None steps ≡ None)) table old new

-- a run, at a fault: nothing was sent but to settle and ask the device; or such steps were done,
-- each whole but the last, which failed
abbrev pub RunStopsKept : List ChipData → RigState → RigState → Fault → Type 0
RunStopsKept table old new fault =
    RunDoesInPart (λ chip s. KeepsFirst chip None) table old new fault

-- Of an undo. There are the pages of the segments that aren't taken off yet, the newest first:

-- a page is one of the newest
abbrev pub IsOfNewest : ℕ → List (List Kept) → Type 0
IsOfNewest n [] = ⊥
IsOfNewest n (pages ∷ below) = Contains (map (λ kept. kept.page) pages) n

-- Lines that may come next, and the segments behind them: the newest is said to be changed in a
-- page of its own, or it is taken off.
pub data MayTake : List (List Kept) → List Entry → List (List Kept) → Type 0 where
  erasing : (n : ℕ) (segments : List (List Kept)) → IsOfNewest n segments
      → MayTake segments (Erases n ∷ []) segments
  programming : (n : ℕ) (segments : List (List Kept)) → IsOfNewest n segments
      → MayTake segments (Programs n ∷ []) segments
  undoing : (pages : List Kept) (below : List (List Kept))
      → MayTake (pages ∷ below) (Undoes (length below + 1) ∷ []) below

-- Each step may come behind those before it: what is erased or written, and each intent's line, is
-- of a page of the newest segment that isn't taken off yet.
abbrev pub PutsBack : ChipData → List (List Kept) → List Step → Type 0
PutsBack chip segments [] = Unit {0}
PutsBack chip segments (Adds entries ∷ steps) = (later : List (List Kept))
    × MayTake segments entries later × PutsBack chip later steps
PutsBack chip segments (Sends turns ∷ steps) =
    MaySend chip (λ n. IsOfNewest n segments) turns × PutsBack chip segments steps

-- these, of a journal's segments
abbrev pub PutsBackFrom : StepsOf
PutsBackFrom chip s steps = PutsBack chip (pages_of_segments s.stack) steps

-- an undo, at Ok: its steps are such
abbrev pub UndoPutsBack : List ChipData → RigState → RigState → Type 0
UndoPutsBack table old new = UndoDoes PutsBackFrom table old new

-- an undo, at a fault: nothing was sent but to settle and ask the device; or such steps were done,
-- each whole but the last, which failed
abbrev pub UndoStopsBack : List ChipData → RigState → RigState → Fault → Type 0
UndoStopsBack table old new fault = UndoDoesInPart PutsBackFrom table old new fault
