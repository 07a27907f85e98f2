-- Runs and undos one behind another, on any line, each of which may be stopped anywhere, with
-- losses of power at any moment.
use Rattle.std.proofs.Common.{◌≡◌, ◌⊎◌, inl, inr, ℕ, Bool, true, false, List, [], ◌∷◌, ◌++◌}
use Rattle.std.proofs.Common.{map, take, Option, Some, None}
use Rattle.stm_wire.specs.declared.intent.Intent.{Intent}
use Rattle.stm_wire.specs.Call.{Call}
use Rattle.stm_wire.specs.Chip.{ChipData}
use Rattle.stm_wire.specs.Dialogue.{GoesOn}
use Rattle.stm_wire.specs.Rig.{RigState}
use Rattle.stm_journal.specs.Journals.{Loaded}
use Rattle.stm_journal.specs.States.{intent_of, is_unfinished}
use Rattle.stm_session.specs.declared.asking_board.Board.{Board}
use Rattle.stm_session.specs.declared.fault.Fault.{Fault}
use Rattle.stm_session.specs.declared.returned.Returned.{Returned}
use Rattle.stm_session.specs.AskingBoard.{AnswersInOrder, AskingStops, AsksForBoard}
use Rattle.stm_session.specs.Fault.{Cause, cause_of}
use Rattle.stm_session.specs.Fresh.{Way, contact_way, settling_way}
use Rattle.stm_session.specs.Meaning.{CommandData}
use Rattle.stm_session.specs.Order.{Step, Adds, Sends, AreCutShort, IsAfter}
use Rattle.stm_session.specs.Reaching.{ReachesAndDoes, ReachesAndStops}
use Rattle.stm_session.specs.Reaching.{ReachesInPart, Session, SettlesThen, asking_steps}
use Rattle.stm_session.specs.RunOrder.{RunStops, RunsInOrder}
use Rattle.stm_session.specs.Undoable.{IsJournalOf, has_companion}
use Rattle.stm_session.specs.UndoOrder.{GivesBackInOrder, UndoStopsAs, UndoesInOrder}
use Rattle.stm_weak.specs.Believed.{NoneBelieved}
use Rattle.stm_weak.specs.Weak.{WeakEvent, breaks, does, settles, NoneIs, intent_behind, weak_behind}

-- the steps of a session that was stopped: those that were done, and the one that failed, if any
pub record Part : Type 0 where
  pub done : List Step
  pub failed : Option Step

-- as the clauses of a call tell them, where its Rig keeps a record
abbrev pub part_in : (way : Way) (Allowed : List Step → Type 0) (cause : Cause) (torn : Bool)
    (old new : Option (List Call))
    → GoesOn (SettlesThen way (AreCutShort Allowed cause torn)) old new → Part
part_in way Allowed cause torn None new goes = record { done = []; failed = None }
part_in way Allowed cause torn (Some past) new goes =
    record { done = goes.2.5.done; failed = goes.2.5.failed }

-- What is left of the step that failed: a frame that was broken off; or of lines the first ones
-- that stand, so many.
abbrev pub left_events : ℕ → Option Step → List WeakEvent
left_events whole None = []
left_events whole (Some (Sends turns)) = breaks turns ∷ []
left_events whole (Some (Adds entries)) = does (Adds (take whole entries)) ∷ []

-- A session whose steps were done: it settled the device, asked it, and did them;
abbrev pub done_events : Option Intent → (way : Way) (id : ℕ) (torn : Bool)
    (P : List Step → Type 0) (old new : RigState) → ReachesAndDoes way id torn P old new
    → List WeakEvent
done_events intent way id torn P old new reached =
    settles intent
    ∷ map (λ step. does step) (asking_steps reached.0 reached.1 id ++ reached.2)

-- and one that was stopped.
abbrev pub stopped_events : Option Intent → ℕ → (way : Way) (id : ℕ) (torn : Bool)
    (P : List Step → Type 0) (cause : Cause) (old new : RigState)
    → ReachesAndStops way id torn P cause old new → List WeakEvent
stopped_events intent whole way id torn P cause old new reached =
    let part =
    part_in way (IsAfter (asking_steps reached.0 reached.1 id) P) cause torn old.calls new.calls
    reached.2
    in
    settles intent ∷ (map (λ step. does step) part.done ++ left_events whole part.failed)

-- an undo that was stopped: its device wasn't reached, or it was
abbrev pub undo_events : Option Intent → ℕ → (way : Way) (id : ℕ) (torn : Bool)
    (P : List Step → Type 0) (cause : Cause) (old new : RigState)
    → GoesOn (ReachesInPart way cause torn) old.calls new.calls
    ⊎ ReachesAndStops way id torn P cause old new
    → List WeakEvent
undo_events intent whole way id torn P cause old new (inl unreached) = settles intent ∷ []
undo_events intent whole way id torn P cause old new (inr reached) =
    stopped_events intent whole way id torn P cause old new reached

-- A call, as its clauses tell it: also one that asks a device which board it is, as the program
-- does before each other. Of one that was stopped so many lines of an append that failed stand. An
-- undo that finds nothing to undo is one that was stopped before it did anything.
pub data WeakDeed (R : Type 0) (view : R → RigState) : Type 0 where
  ran : (table : List ChipData) (commands : List CommandData) (old new : R)
      → RunsInOrder table commands (view old) (view new) → WeakDeed R view
  run_stopped : (table : List ChipData) (commands : List CommandData)
      (old new : R) (fault : Fault) (whole : ℕ)
      → RunStops table commands (view old) (view new) fault → WeakDeed R view
  undid : (table : List ChipData) (taken : ℕ) (old new : R)
      → UndoesInOrder table taken (view old) (view new) → WeakDeed R view
  undid_verified : (table : List ChipData) (returned : Returned) (old new : R)
      → GivesBackInOrder true table returned (view old) (view new) → WeakDeed R view
  undo_stopped : (again : Bool) (table : List ChipData) (count : ℕ) (old new : R)
      (fault : Fault) (whole : ℕ)
      → UndoStopsAs again table count (view old) (view new) fault → WeakDeed R view
  asked : (table : List ChipData) (board : Board) (old new : R) → AsksForBoard table (view old)
      (λ way torn. AnswersInOrder table board way torn (view old) (view new)) → WeakDeed R view
  asking_stopped : (table : List ChipData) (old new : R) (fault : Fault)
      → AskingStops table (view old) (view new) fault → WeakDeed R view

-- What befell the device in it. A run settles under no intent, with 7F, which changes no page. A call
-- that didn't reach the device, or was stopped before it had asked it, did no more than to settle it.
-- Of one that asks for the board no more is told: its frames change nothing, and read where the
-- board is told.
abbrev pub events_in : {R : Type 0} {view : R → RigState} → WeakDeed R view → List WeakEvent
events_in {R = R} {view = view} (ran table commands old new session) =
    done_events None contact_way session.chip.id session.journal.is_torn _
    (view old) (view new) session.does
events_in {R = R} {view = view}
    (run_stopped table commands old new fault whole (inl unreached)) = []
events_in {R = R} {view = view}
    (run_stopped table commands old new fault whole (inr session)) =
    stopped_events None whole contact_way session.chip.id session.journal.is_torn _
    (cause_of fault) (view old) (view new) session.does
events_in {R = R} {view = view} (undid table taken old new session) =
    let intent = intent_of session.journal.state in
    done_events intent (settling_way session.chip.kind session.journal.is_greeted intent) session.chip.id
    session.journal.is_torn _ (view old) (view new) session.does
events_in {R = R} {view = view} (undid_verified table returned old new session) =
    let intent = intent_of session.journal.state in
    done_events intent (settling_way session.chip.kind session.journal.is_greeted intent) session.chip.id
    session.journal.is_torn _ (view old) (view new) session.does
events_in {R = R} {view = view}
    (undo_stopped again table count old new fault whole (inl fetched)) = []
events_in {R = R} {view = view}
    (undo_stopped again table count old new fault whole (inr session)) =
    let intent = intent_of session.journal.state in
    undo_events intent whole (settling_way session.chip.kind session.journal.is_greeted intent) session.chip.id
    session.journal.is_torn _ (cause_of fault) (view old) (view new) session.does
events_in {R = R} {view = view} (asked table board old new asks) =
    settles (intent_of asks.journal.state) ∷ []
events_in {R = R} {view = view} (asking_stopped table old new fault (inl fetched)) = []
events_in {R = R} {view = view} (asking_stopped table old new fault (inr asks)) =
    settles (intent_of asks.journal.state) ∷ []

-- A session of this chip whose journal is honest: what was loaded has the intent that the lines so
-- far have. A run refuses a journal with an unfinished segment,
abbrev pub RunFinds : {table : List ChipData} {old : RigState} {P : ChipData → Loaded → Type 0}
    → ChipData → Option Intent → Session table old P → Type 0
RunFinds chip intent session = (session.chip ≡ chip) × (intent_of session.journal.state ≡ intent)
    × (is_unfinished session.journal.state ≡ false)

-- and an undo one that isn't of the chip, before they send a byte.
abbrev pub UndoFinds : {table : List ChipData} {old : RigState} {P : ChipData → Loaded → Type 0}
    → ChipData → Option Intent → Session table old P → Type 0
UndoFinds chip intent session = (session.chip ≡ chip) × (intent_of session.journal.state ≡ intent)
    × IsJournalOf chip session.journal.state

abbrev pub Finds : {R : Type 0} {view : R → RigState} → ChipData → Option Intent → WeakDeed R view
    → Type 0
Finds chip intent (ran table commands old new session) = RunFinds chip intent session
Finds chip intent (run_stopped table commands old new fault whole (inl unreached)) = Unit {0}
Finds chip intent (run_stopped table commands old new fault whole (inr session)) =
    RunFinds chip intent session
Finds chip intent (undid table taken old new session) = UndoFinds chip intent session
Finds chip intent (undid_verified table returned old new session) = UndoFinds chip intent session
Finds chip intent (undo_stopped again table count old new fault whole (inl fetched)) = Unit {0}
Finds chip intent (undo_stopped again table count old new fault whole (inr session)) =
    UndoFinds chip intent session
Finds chip intent (asked table board old new asks) = intent_of asks.journal.state ≡ intent
Finds chip intent (asking_stopped table old new fault (inl fetched)) = Unit {0}
Finds chip intent (asking_stopped table old new fault (inr asks)) =
    intent_of asks.journal.state ≡ intent

-- calls one behind another, all of one chip, with an honest journal
abbrev pub AllFind : {R : Type 0} {view : R → RigState} → ChipData → Option Intent
    → List (WeakDeed R view) → Type 0
AllFind chip intent [] = Unit {0}
AllFind chip intent (deed ∷ deeds) =
    Finds chip intent deed × AllFind chip (intent_behind intent (events_in deed)) deeds

-- where a run or an undo answered Ok, this holds behind it
abbrev pub AtOk : {R : Type 0} {view : R → RigState} → WeakDeed R view → Type 0 → Type 0
AtOk (ran table commands old new session) P = P
AtOk (run_stopped table commands old new fault whole stop) P = Unit {0}
AtOk (undid table taken old new session) P = P
AtOk (undid_verified table returned old new session) P = P
AtOk (undo_stopped again table count old new fault whole stop) P = Unit {0}
AtOk (asked table board old new asks) P = Unit {0}
AtOk (asking_stopped table old new fault stop) P = Unit {0}

-- In each call no page is believed that may be weak, and each page that may be is at work; and
-- behind a run or an undo that answered Ok no page may be weak.
abbrev pub AllHeal : {R : Type 0} {view : R → RigState} → ChipData → (ℕ → Type 0) → Option Intent
    → List (WeakDeed R view) → Type 0
AllHeal chip Weak intent [] = Unit {0}
AllHeal chip Weak intent (deed ∷ deeds) =
    NoneBelieved chip (has_companion chip) Weak intent (events_in deed)
    × AtOk deed (NoneIs (λ n. weak_behind chip Weak (events_in deed) n))
    × AllHeal chip (λ n. weak_behind chip Weak (events_in deed) n)
    (intent_behind intent (events_in deed)) deeds

-- a history that begins with no journal, and no weak page
abbrev pub HistoriesHeal : {R : Type 0} → (R → RigState) → Type 0
HistoriesHeal {R} view = (chip : ChipData) (deeds : List (WeakDeed R view))
    → AllFind chip None deeds → AllHeal chip (λ n. ⊥) None deeds
