-- Of a page that is kept: where its bytes come from, and how long it is kept.
use Rattle.std.specs.Prelude.{◌≡◌, ◌⊎◌, ℕ, List, [], ◌∷◌, ◌++◌}
use Rattle.stm_wire.specs.Chip.{ChipData}
use Rattle.stm_wire.specs.Dialogue.{Turn}
use Rattle.stm_journal.specs.declared.entry.Entry.{Entry}
use Rattle.stm_journal.specs.declared.entry.Entry.TheVariants.{Keeps, Undoes}
use Rattle.stm_session.specs.Order.{Step, Adds, Sends}
use Rattle.stm_any_line.specs.Segments.{SavedPage, HasPage, SomeKeeps, segments_behind}
use Rattle.stm_any_line.specs.Segments.{segments_behind_lines, segments_behind_steps}
use Rattle.stm_any_line.specs.Tracks.{IsJustRead, MayPut, Tracks}

-- the line is one of these
abbrev pub IsOneOf : Entry → List Entry → Type 0
IsOneOf entry [] = ⊥
IsOneOf entry (first ∷ entries) = (first ≡ entry) ⊎ IsOneOf entry entries

-- In one of the steps a line kept page n, with these bytes, which had just come.
pub record WasRead (chip : ChipData) (n : ℕ) (bytes : List ℕ) (steps : List Step) : Type 0 where
  pub earlier : List Step
  pub entries : List Entry
  pub later : List Step
  pub is : steps ≡ earlier ++ Adds entries ∷ later
  pub kept : IsOneOf (Keeps n bytes) entries
  pub read : IsJustRead chip n bytes earlier

-- the newest segment keeps page n, with these bytes
abbrev pub NewestHas : ℕ → List ℕ → List (List SavedPage) → Type 0
NewestHas n bytes [] = ⊥
NewestHas n bytes (pages ∷ below) = HasPage pages n bytes

-- A line says that a segment was undone which keeps page n, with these bytes: among lines,
abbrev pub AreTakenOff : ℕ → List ℕ → List (List SavedPage) → List Entry → Type 0
AreTakenOff n bytes segments [] = ⊥
AreTakenOff n bytes segments (Undoes number ∷ entries) =
    NewestHas n bytes segments
    ⊎ AreTakenOff n bytes (segments_behind segments (Undoes number)) entries
AreTakenOff n bytes segments (entry ∷ entries) =
    AreTakenOff n bytes (segments_behind segments entry) entries

-- and among steps.
abbrev pub IsTakenOff : ℕ → List ℕ → List (List SavedPage) → List Step → Type 0
IsTakenOff n bytes segments [] = ⊥
IsTakenOff n bytes segments (Adds entries ∷ steps) =
    AreTakenOff n bytes segments entries
    ⊎ IsTakenOff n bytes (segments_behind_lines segments entries) steps
IsTakenOff n bytes segments (Sends turns ∷ steps) = IsTakenOff n bytes segments steps

-- What is kept was read: a line kept it with the bytes that had just come.
abbrev pub KeptWasRead : Type 0
KeptWasRead = (chip : ChipData) (n : ℕ) (bytes : List ℕ) (steps : List Step)
    → Tracks chip [] [] steps → SomeKeeps n bytes (segments_behind_steps [] steps)
    → WasRead chip n bytes steps

-- A page that is kept then, with the bytes that came when it was read; and it is kept behind all
-- that comes later, unless the segment that keeps it was undone.
pub record StaysKept (chip : ChipData) (n : ℕ) (before later : List Step) : Type 0 where
  pub bytes : List ℕ
  pub newest : NewestHas n bytes (segments_behind_steps [] before)
  pub read : WasRead chip n bytes before
  pub stays : SomeKeeps n bytes (segments_behind_steps [] (before ++ later))
      ⊎ IsTakenOff n bytes (segments_behind_steps [] before) later

-- Each frame asks or reads, or changes such a page.
abbrev pub ChangedIsKept : Type 0
ChangedIsKept = (chip : ChipData) (before later : List Step) (turns : List Turn)
    → Tracks chip [] [] (before ++ Sends turns ∷ later)
    → MayPut chip (λ n. StaysKept chip n before (Sends turns ∷ later)) turns
