-- In which order an undo sends frames and appends lines, on any line.
use Rattle.std.specs.Prelude.{◌≡◌, ◌⊎◌, ℕ, zero, suc, ◌+◌, ◌<◌, ◌≤◌, Bool, true, false, List}
use Rattle.std.specs.Prelude.{[], ◌∷◌, ◌++◌, length}
use Rattle.stm_wire.specs.Chip.{ChipData, page_size}
use Rattle.stm_wire.specs.Dialogue.{GoesOn}
use Rattle.stm_wire.specs.Rig.{RigState}
use Rattle.stm_session.specs.Fresh.{settling_way}
use Rattle.stm_journal.specs.declared.entry.Entry.TheVariants.{Undoes}
use Rattle.stm_journal.specs.declared.kept.Kept.{Kept}
use Rattle.stm_journal.specs.Calls.{AreFetches}
use Rattle.stm_journal.specs.Journals.{capped}
use Rattle.stm_journal.specs.Newest.{pages_of_segments}
use Rattle.stm_journal.specs.States.{intent_of}
use Rattle.stm_session.specs.declared.fault.Fault.{Fault}
use Rattle.stm_session.specs.declared.returned.Returned.{Returned}
use Rattle.stm_session.specs.Fault.{cause_of}
use Rattle.stm_session.specs.Closing.{IsLookedAgain, closing}
use Rattle.stm_session.specs.Order.{Step, Adds, AreGivenBack, AreReadsOf, AreRewritten, Begin}
use Rattle.stm_session.specs.Order.{IsAfter, Tells, page_address, page_reads, tells_behind, untold}
use Rattle.stm_session.specs.Reaching.{IsConfirmedInPart, ReachesAndDoes, ReachesAndStops}
use Rattle.stm_session.specs.Reaching.{ReachesInPart, Session, StepsOf, confirmed_at, confirming}
use Rattle.stm_session.specs.ReturnedBytes.{kept_bytes}
use Rattle.stm_session.specs.Work.{pages_at_work}

-- Steps that end as such do that end with what is due, or begin to: but for what came there. Behind
-- another answer than its own there is no other step.
pub record EndsOtherwise (P : List Step → Type 0) (due : List Step) (Comes : List Step → Type 0)
    (steps : List Step) : Type 0 where
  pub before : List Step
  pub own : P (before ++ due)
  pub came : List Step
  pub begun : Begin Comes came
  pub is : steps ≡ before ++ came

-- Such steps; or also those in which the board is asked last which it is, or, where pages are read
-- again, a page is read last; and whatever came then.
pub data OrMisread (again : Bool) (chip : ChipData) (P : List Step → Type 0) (steps : List Step)
    : Type 0 where
  such : P steps → OrMisread again chip P steps
  elsewhere : EndsOtherwise P (closing chip) (IsLookedAgain (confirmed_at chip)) steps
      → OrMisread again chip P steps
  misread : again ≡ true → (n : ℕ) (page : List ℕ) → length page ≡ page_size chip n
      → EndsOtherwise P (page_reads chip n page)
      (AreReadsOf (page_address chip n) (page_size chip n)) steps → OrMisread again chip P steps

-- The board answers that it is the one that was asked first; and the line is appended that says that
-- its segment is undone.
abbrev pub ending_steps : ChipData → ℕ → List Step
ending_steps chip number = closing chip ++ Adds (Undoes number ∷ []) ∷ []

-- behind the segment's pages
pub record IsSegmentUndone (again : Bool) (chip : ChipData) (Told : Tells) (pages : List Kept)
    (number : ℕ) (steps : List Step) : Type 0 where
  pub returns : List Step
  pub are_returns : AreGivenBack again chip Told pages returns
  pub is : steps ≡ returns ++ ending_steps chip number

-- so many segments of these pages are undone, the newest first
abbrev pub AreSegmentsUndone : Bool → ChipData → Tells → ℕ → List (List Kept) → List Step → Type 0
AreSegmentsUndone again chip Told zero segments steps = steps ≡ []
AreSegmentsUndone again chip Told (suc taken) [] steps = ⊥
AreSegmentsUndone again chip Told (suc taken) (pages ∷ below) steps =
    (first : List Step) × (rest : List Step) × (steps ≡ first ++ rest)
    × IsSegmentUndone again chip Told pages (length below + 1) first
    × AreSegmentsUndone again chip (tells_behind first Told) taken below rest

-- the pages at work first, and then so many segments are undone
pub record AreAllUndone (again : Bool) (chip : ChipData) (Told : Tells) (work : List ℕ)
    (taken : ℕ) (segments : List (List Kept)) (steps : List Step) : Type 0 where
  pub first : List Step
  pub is_first : AreRewritten chip Told work first
  pub back : List Step
  pub are_back : AreSegmentsUndone again chip (tells_behind first Told) taken segments back
  pub is : steps ≡ first ++ back

-- An undo that does such steps: settling by the intent of the journal that was loaded, Get, Get ID,
-- by which the device is the journal's chip, the question whether it is still the chip's board, and
-- then these.
abbrev pub UndoDoes : StepsOf → List ChipData → RigState → RigState → Type 0
UndoDoes P table old new = Session table old (λ chip l.
    ReachesAndDoes (settling_way chip.kind l.is_greeted (intent_of l.state)) chip.id l.is_torn
    (IsAfter (confirming chip) (P chip l.state)) old new)

-- One that is broken off: nothing was done but reading the journal; or settling, Get and Get ID, or
-- a part of these; or all of these, and then that question, and such steps, were cut short.
abbrev pub UndoDoesInPart : StepsOf → List ChipData → RigState → RigState → Fault → Type 0
UndoDoesInPart P table old new fault = GoesOn AreFetches old.calls new.calls
    ⊎ Session table old (λ chip l. let way = settling_way chip.kind l.is_greeted (intent_of l.state) in
    GoesOn (ReachesInPart way (cause_of fault) l.is_torn) old.calls new.calls
    ⊎ ReachesAndStops way chip.id l.is_torn (IsConfirmedInPart chip (P chip l.state))
    (cause_of fault) old new)

-- so many of the journal's segments are undone, the pages at work first; and each page of
-- theirs is read again, where that is asked for
abbrev pub AreTakenAs : Bool → Tells → ℕ → StepsOf
AreTakenAs again Told taken chip s steps =
    AreAllUndone again chip Told (pages_at_work s.stack) taken (pages_of_segments s.stack) steps

abbrev pub AreUndoneInOrder : Bool → ℕ → StepsOf
AreUndoneInOrder again taken = AreTakenAs again untold taken

-- a beginning of undoing some, no more than there are, nor than are asked for where that is a
-- number
abbrev pub BeginTaking : Bool → ℕ → StepsOf
BeginTaking again count chip s steps = (taken : ℕ) × (taken ≤ length s.stack)
    × (0 < count → taken ≤ count) × OrMisread again chip (Begin (AreUndoneInOrder again taken chip s)) steps

abbrev pub UndoesInOrder : List ChipData → ℕ → RigState → RigState → Type 0
UndoesInOrder table taken old new = UndoDoes (AreUndoneInOrder false taken) table old new

abbrev pub UndoStopsAs : Bool → List ChipData → ℕ → RigState → RigState → Fault → Type 0
UndoStopsAs again table count old new fault =
    UndoDoesInPart (BeginTaking again count) table old new fault

abbrev pub UndoStops : List ChipData → ℕ → RigState → RigState → Fault → Type 0
UndoStops table count old new fault = UndoStopsAs false table count old new fault

-- The same of an undo that tells what it returned: so many segments, and the bytes that these keep.
abbrev pub AreTakenWhole : Bool → Tells → Returned → StepsOf
AreTakenWhole again Told returned chip s steps =
    AreTakenAs again Told returned.segments chip s steps
    × (returned.bytes ≡ capped (kept_bytes chip returned.segments (pages_of_segments s.stack)))

abbrev pub GivesBackInOrder : Bool → List ChipData → Returned → RigState → RigState → Type 0
GivesBackInOrder again table returned old new =
    UndoDoes (AreTakenWhole again untold returned) table old new
