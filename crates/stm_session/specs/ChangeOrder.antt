-- In which order a command that changes the flash puts frames and appends lines, on any line.
use Rattle.std.specs.Prelude.{◌≡◌, ◌⊎◌, ℕ, ◌+◌, ◌/◌, ◌<◌, ◌==◌, ◌&&◌, not, Bool, true, false}
use Rattle.std.specs.Prelude.{if◌then◌else◌, List, [], ◌∷◌, ◌++◌, length, bytes_eq, IsTrue}
use Rattle.std.specs.List.{AllByRecursion}
use Rattle.stm_wire.specs.Chip.{ChipData, erased_byte, page_count, page_size}
use Rattle.stm_chip.specs.Plan.{frames_of}
use Rattle.stm_journal.specs.declared.entry.Entry.TheVariants.{Keeps, Erases, Ends}
use Rattle.stm_journal.specs.Journals.{begin_entries}
use Rattle.stm_journal.specs.States.{StateData, newest_keeps}
use Rattle.stm_session.specs.declared.change.Change.{Change}
use Rattle.stm_session.specs.Closing.{IsClosedInPart, closing}
use Rattle.stm_session.specs.Contents.{MayTouch, content}
use Rattle.stm_session.specs.Order.{Step, Adds, Are, Begin, page_reads, rewrite_steps}
use Rattle.stm_session.specs.Undoable.{has_companion}

-- page 257 is read and kept
pub record IsCompanionSaved (chip : ChipData) (steps : List Step) : Type 0 where
  pub other : List ℕ
  pub size : length other ≡ page_size chip 257
  pub is : steps ≡ page_reads chip 257 other ++ Adds (Keeps 257 other ∷ []) ∷ []

-- and then a page that was read is kept
pub record AreBothSaved (chip : ChipData) (n : ℕ) (held : List ℕ) (steps : List Step) : Type 0 where
  pub first : List Step
  pub is_first : IsCompanionSaved chip first
  pub is : steps ≡ first ++ Adds (Keeps n held ∷ []) ∷ []

abbrev pub IsSavedWith : Bool → ChipData → ℕ → List ℕ → List Step → Type 0
IsSavedWith true chip n held steps = AreBothSaved chip n held steps
IsSavedWith false chip n held steps = steps ≡ Adds (Keeps n held ∷ []) ∷ []

-- a page that was read is kept, where it isn't yet, and before page 1 its companion
abbrev pub IsSaved : Bool → ChipData → ℕ → List ℕ → List Step → Type 0
IsSaved true chip n held steps = steps ≡ []
IsSaved false chip n held steps = IsSavedWith (n == 1 && has_companion chip) chip n held steps

-- it is kept, erased and written, each line before its frames
pub record IsPageChanged (kept : Bool) (chip : ChipData) (n : ℕ) (held page : List ℕ)
    (steps : List Step) : Type 0 where
  pub saved : List Step
  pub is_saved : IsSaved kept chip n held saved
  pub is : steps
      ≡ saved ++ rewrite_steps chip n page (frames_of (erased_byte chip) page (length page / 256))

abbrev pub IsChangedUnless : Bool → Bool → ChipData → ℕ → List ℕ → List ℕ → List Step → Type 0
IsChangedUnless true kept chip n held page steps = steps ≡ []
IsChangedUnless false kept chip n held page steps = IsPageChanged kept chip n held page steps

-- where it doesn't hold its new bytes already
abbrev pub IsChanged : Bool → ChipData → ℕ → List ℕ → List ℕ → List Step → Type 0
IsChanged kept chip n held page steps =
    IsChangedUnless (bytes_eq held page) kept chip n held page steps

-- a page that the command is for is read first; whatever was read, what the command makes
-- of it is what is written
pub record IsReadAndChanged (kept : Bool) (chip : ChipData) (c : Change) (n : ℕ) (changed : Bool)
    (steps : List Step) : Type 0 where
  pub may : MayTouch chip c n
  pub held : List ℕ
  pub size : length held ≡ page_size chip n
  pub counts : changed ≡ not (bytes_eq held (content chip c n held))
  pub later : List Step
  pub is_changed : IsChanged kept chip n held (content chip c n held) later
  pub is : steps ≡ page_reads chip n held ++ later

-- any other page is left alone
pub record IsLeft (chip : ChipData) (c : Change) (n : ℕ) (changed : Bool)
    (steps : List Step) : Type 0 where
  pub same : (held : List ℕ) → length held ≡ page_size chip n → content chip c n held ≡ held
  pub unchanged : changed ≡ false
  pub is : steps ≡ []

abbrev pub IsTurnOf : Bool → ChipData → Change → ℕ → Bool → List Step → Type 0
IsTurnOf kept chip c n changed steps =
    IsLeft chip c n changed steps ⊎ IsReadAndChanged kept chip c n changed steps

-- The newest segment keeps the page that a step says it erases.
abbrev pub KeepsErased : StateData → Step → Type 0
KeepsErased s step = (n : ℕ) → step ≡ Adds (Erases n ∷ []) → IsTrue (newest_keeps n s)

-- such steps, and it keeps each page that they erase
abbrev pub Keeping : StateData → (List Step → Type 0) → List Step → Type 0
Keeping s P steps = P steps × AllByRecursion (KeepsErased s) steps

-- The pages below one, by rising number; page 257 was kept before its turn exactly
-- where page 1 was changed.
pub data AreTurned (chip : ChipData) (c : Change) : ℕ → Bool → List Step → Type 0 where
  none : AreTurned chip c 0 false []
  more : (n : ℕ) (was changed : Bool) (before own : List Step) → AreTurned chip c n was before
      → IsTurnOf (n == 257 && was) chip c n changed own
      → AreTurned chip c (n + 1) (if n == 1 then changed else was) (before ++ own)

abbrev pub AreAllTurned : ChipData → Change → List Step → Type 0
AreAllTurned chip c steps = (first : Bool) × AreTurned chip c (page_count chip) first steps

-- A command's segment: its first lines, its pages, the question whether the board is still the one
-- that was asked first, and its last line. So at Ok the board that was asked first answered after the
-- last frame that erases or writes, and before its last line: its number and its unique id came, where
-- it told that one before.
pub record IsOneSegment (chip : ChipData) (c : Change) (s : StateData)
    (steps : List Step) : Type 0 where
  pub turned : List Step
  pub are_turned : AreAllTurned chip c turned
  pub is : steps
      ≡ Adds (begin_entries chip.id chip.unique s)
      ∷ (turned ++ (closing chip ++ Adds (Ends (length s.stack + 1) ∷ []) ∷ []))

-- At a fault:

-- page n, whatever comes of it
abbrev pub IsPageTurn : Bool → ChipData → Change → ℕ → List Step → Type 0
IsPageTurn kept chip c n steps = (changed : Bool) × IsTurnOf kept chip c n changed steps

-- the pages below one, and then a beginning of that page
pub record AreBegunTurns (chip : ChipData) (c : Change) (steps : List Step) : Type 0 where
  pub page : ℕ
  pub exists : page < page_count chip
  pub first : Bool
  pub before : List Step
  pub are_turned : AreTurned chip c page first before
  pub own : List Step
  pub is_begun : Begin (IsPageTurn (page == 257 && first) chip c page) own
  pub is : steps ≡ before ++ own

-- A beginning of a command's segment: of its first lines; or those, and a beginning of its pages; or
-- those, all its pages, and that question, whatever comes, or its answer and a beginning of the last
-- line.
pub data IsSegmentBegun (chip : ChipData) (c : Change) (s : StateData)
    (steps : List Step) : Type 0 where
  begins : Begin (Are (Adds (begin_entries chip.id chip.unique s) ∷ [])) steps
      → IsSegmentBegun chip c s steps
  turns : (pages : List Step) → AreBegunTurns chip c pages
      → steps ≡ Adds (begin_entries chip.id chip.unique s) ∷ pages → IsSegmentBegun chip c s steps
  ends : (turned own : List Step) → AreAllTurned chip c turned
      → IsClosedInPart chip (Begin (Are (Adds (Ends (length s.stack + 1) ∷ []) ∷ []))) own
      → steps ≡ Adds (begin_entries chip.id chip.unique s) ∷ (turned ++ own)
      → IsSegmentBegun chip c s steps
