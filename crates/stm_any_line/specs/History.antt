-- Calls of a session one behind another, on any line, with one journal.
use Rattle.std.specs.Prelude.{◌≡◌, ℕ, Bool, List, [], ◌∷◌, ◌++◌, length, nat_lt, Option, Some, None}
use Rattle.stm_wire.specs.Call.{Call}
use Rattle.stm_wire.specs.Chip.{ChipData}
use Rattle.stm_wire.specs.Rig.{RigState}
use Rattle.stm_journal.specs.declared.entry.Entry.{Entry}
use Rattle.stm_journal.specs.Journals.{Loaded}
use Rattle.stm_session.specs.declared.fault.Fault.{Fault}
use Rattle.stm_session.specs.Kept.{UndoPutsBack, UndoStopsBack}
use Rattle.stm_session.specs.Meaning.{CommandData}
use Rattle.stm_session.specs.Order.{Step, Adds, Sends}
use Rattle.stm_session.specs.RunOrder.{RunStops, RunsInOrder}
use Rattle.stm_any_line.specs.Calls.{AreSteps, DoesBehind, IsOf, IsOfIfAny, Made, RunSays, UndoSays}
use Rattle.stm_any_line.specs.Texts.{IsJournalText, JournalIsHonest, appended_in, lines_of}
use Rattle.stm_any_line.specs.Tracks.{Tracks}

-- A call that returned, as its clauses tell it; an undo that finds nothing to undo is one that
-- was stopped before it did anything.
pub data Deed (R : Type 0) : Type 0 where
  ran : (table : List ChipData) (commands : List CommandData) (old new : R) → Deed R
  run_stopped : (table : List ChipData) (commands : List CommandData)
      (old new : R) (fault : Fault) → Deed R
  undid : (table : List ChipData) (old new : R) → Deed R
  undo_stopped : (table : List ChipData) (old new : R) (fault : Fault) → Deed R

-- it was of this chip, loaded this journal, and made these calls
abbrev pub Happens : {R : Type 0} → (R → RigState) → ChipData → Loaded → List Call → Deed R → Type 0
Happens view chip l calls (ran table commands old new) =
    ((session : RunsInOrder table commands (view old) (view new))
    × IsOf chip l session)
    × Made calls (view old) (view new)
Happens view chip l calls (run_stopped table commands old new fault) =
    ((stop : RunStops table commands (view old) (view new) fault)
    × IsOfIfAny chip l stop)
    × Made calls (view old) (view new)
Happens view chip l calls (undid table old new) =
    ((session : UndoPutsBack table (view old) (view new)) × IsOf chip l session)
    × Made calls (view old) (view new)
Happens view chip l calls (undo_stopped table old new fault) =
    ((stop : UndoStopsBack table (view old) (view new) fault) × IsOfIfAny chip l stop)
    × Made calls (view old) (view new)

-- the lines that it may add
abbrev pub says_of : {R : Type 0} → Deed R → (Entry → Type 0)
says_of (ran table commands old new) = RunSays
says_of (run_stopped table commands old new fault) = RunSays
says_of (undid table old new) = UndoSays
says_of (undo_stopped table old new fault) = UndoSays

-- a call, with what it loaded, its calls of the Rig, and the text behind it
pub record Visit (R : Type 0) : Type 0 where
  pub deed : Deed R
  pub journal : Loaded
  pub calls : List Call
  pub after : List ℕ

-- one call behind another, all of one chip, with a journal that is honest in each
abbrev pub AreHonest : {R : Type 0} → (R → RigState) → ChipData → List ℕ → List (Visit R) → Type 0
AreHonest view chip text [] = Unit {0}
AreHonest view chip text (visit ∷ visits) =
    Happens view chip visit.journal visit.calls visit.deed
    × JournalIsHonest visit.journal text visit.after visit.calls
    × AreHonest view chip visit.after visits

-- what is left of a step that failed: a frame that was begun, or the whole lines that were added
abbrev pub left_of : Option Step → List Entry → List Step
left_of None lines = []
left_of (Some (Sends turns)) lines = Sends turns ∷ []
left_of (Some (Adds entries)) lines = Adds lines ∷ []

-- What each call did, behind all that was done before, is such as may come there; and the text
-- behind it is just the lines of all that was done, and a torn tail.
abbrev pub AllTrack : {R : Type 0} → ChipData → List Step → List (Visit R) → Type 0
AllTrack chip before [] = Unit {0}
AllTrack chip before (visit ∷ visits) =
    (does : DoesBehind (says_of visit.deed) chip before visit.journal.is_torn visit.calls)
    × (lines : List Entry)
    × (let now = before ++ (does.did.done ++ left_of does.did.failed lines) in
    Tracks chip [] [] now × ((tail : List ℕ) × IsJournalText (lines_of now) tail visit.after)
    × AllTrack chip now visits)

-- behind any call the text is just its lines before, and those of what the call did
abbrev pub TextsGoOn : Type 0
TextsGoOn = (before : List Step) (is_torn : Bool) (calls : List Call)
    (did : AreSteps is_torn calls) (tail text : List ℕ)
    → is_torn ≡ nat_lt 0 (length tail) → IsJournalText (lines_of before) tail text
    → (lines : List Entry) × (later : List ℕ)
    × IsJournalText (lines_of (before ++ (did.done ++ left_of did.failed lines))) later
    (text ++ appended_in calls)

-- a history that begins with no journal
abbrev pub HistoriesTrack : {R : Type 0} → (R → RigState) → Type 0
HistoriesTrack {R} view = (chip : ChipData) (visits : List (Visit R))
    → AreHonest view chip [] visits → AllTrack chip [] visits
