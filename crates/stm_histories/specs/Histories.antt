-- What the program does with a device is a history of the headline: over any Rig, and from one run
-- of it on a simulator to the next.
use Rattle.std.specs.Prelude.{◌≡◌, ℕ, List, [], Result, Ok, IsSome}
use Rattle.stm_wire.specs.Chip.{ChipData}
use Rattle.stm_wire.specs.Device.{Device, Phase, IsReadyPhase}
use Rattle.stm_sim.specs.Memory.{MemoryData, rig_state}
use Rattle.stm_wire.specs.Rig.{RigState}
use Rattle.stm_journal.specs.Journals.{journal_of}
use Rattle.stm_session.specs.Events.{AllLead, Happening, Knows, Leads, World, end_of, lost_owed}
use Rattle.stm_session.specs.Events.{lost_power, now_of, was_reset}
use Rattle.stm_session.specs.Headline.{IsStart, oldest_of, oldest_start}
use Rattle.stm_session.specs.Moments.{SameMake}
use Rattle.stm_session.specs.Refusal.{open_refusal}
use Rattle.stm_session.specs.Unprotecting.{FollowsUnprotect}
use Rattle.stm_work.specs.declared.action.Action.{Action}
use Rattle.stm_work.specs.declared.action.Action.TheVariants as action
use Rattle.stm_work.specs.declared.answer.Answer.{Answer}
use Rattle.stm_work.specs.declared.failure.Failure.{Failure}
use Rattle.stm_work.specs.declared.work.Work.TheVariants as work
use Rattle.stm_work.specs.Action.{DoesAction, Works}
use Rattle.stm_files.specs.SimulatorFile.{StandsSo, simulator_at}

-- From one Rig to another some events lead, one after another, none of which gives up the way
-- back; another can follow.
pub record IsHistory {R : Type 0} (view : R → RigState) (old new : R) : Type 0 where
  pub history : List (Happening R)
  pub leads : AllLead view history (now_of (view old))
  pub ends : end_of history (now_of (view old)) ≡ now_of (view new)
  pub oldest : (flash : List ℕ) → oldest_of history flash ≡ flash
  pub make : SameMake (view old).device (view new).device
  pub honest : (view new).is_honest

-- the journal refuses what parts from a session
abbrev pub IsPartingRefused : List ℕ → Type 0
IsPartingRefused journal = IsSome (open_refusal (journal_of journal))

-- the action is no `go` and no protection, or the journal refuses these; those that no journal refuses
-- reset their device, and of one another law speaks
abbrev pub StaysInSession : Action → List ℕ → Type 0
StaysInSession action.Info journal = Unit {0}
StaysInSession (action.Read range) journal = Unit {0}
StaysInSession (action.Write content) journal = Unit {0}
StaysInSession (action.WriteAndVerify content) journal = Unit {0}
StaysInSession (action.Verify content) journal = Unit {0}
StaysInSession (action.Erase pages) journal = Unit {0}
StaysInSession action.EraseAll journal = Unit {0}
StaysInSession (action.Undo count) journal = Unit {0}
StaysInSession (action.UndoVerified count) journal = Unit {0}
StaysInSession (action.Go address) journal = IsPartingRefused journal
StaysInSession (action.Protect kind) journal = IsPartingRefused journal
StaysInSession action.UnprotectFresh journal = ⊥
StaysInSession action.UnprotectBegun journal = ⊥

-- an action can be done on this Rig: what was begun before can be undone, and
-- the table knows the device
pub record CanAct {R : Type 0} (view : R → RigState) (table : List ChipData)
    (starts : List (List ℕ)) (does : Action) (old : R) : Type 0 where
  pub honest : (view old).is_honest
  pub start : IsStart starts (now_of (view old))
  pub knows : Knows table (now_of (view old))
  pub stays : StaysInSession does (view old).journal

-- Each action is a history.
abbrev pub ActionsAreHistories : (R : Type 0) → (R → RigState) → Type 0
ActionsAreHistories R view =
    (table : List ChipData) (starts : List (List ℕ)) (does : Action) (old new : R)
    (result : Result Answer Failure)
    → CanAct view table starts does old → DoesAction view table does old new result
    → IsHistory view old new

-- So is the question who a device is, with any table.
abbrev pub IdentifyingIsHistory : (R : Type 0) → (R → RigState) → Type 0
IdentifyingIsHistory R view =
    (table : List ChipData) (starts : List (List ℕ)) (old new : R) (result : Result Answer Failure)
    → (view old).is_honest → IsStart starts (now_of (view old))
    → Works view table work.Identify old new result
    → IsHistory view old new

-- An action, whatever came of it; a loss of power; owed bytes that are lost between two runs of the
-- program; and an undo of everything that answers Ok: every byte of the flash is as it was at the
-- start of the oldest segment, or as the action found it.
abbrev pub StoppedActionsAreUndone : (R : Type 0) → (R → RigState) → Type 0
StoppedActionsAreUndone R view =
    (table : List ChipData) (starts : List (List ℕ)) (does : Action) (first mid again last : R)
    (said : Result Answer Failure)
    (told : Answer) (w : World) → CanAct view table starts does first
    → DoesAction view table does first mid said
    → Leads view lost_power (now_of (view mid)) w → Leads view lost_owed w (now_of (view again))
    → (view again).is_honest
    → DoesAction view table (action.Undo 0) again last (Ok told)
    → (view last).device.flash ≡ oldest_start starts (now_of (view first))

-- An action, whatever came of it; a reset; Write Unprotect, whatever came of it, behind which the
-- device goes on as AN3155 has it, or was reset; and an undo of everything that answers Ok: every
-- byte of the flash is as it was at the start of the oldest segment, or as the action found it.
abbrev pub UnprotectedActionsAreUndone : (R : Type 0) → (R → RigState) → Type 0
UnprotectedActionsAreUndone R view =
    (table : List ChipData) (starts : List (List ℕ)) (does : Action)
    (first mid before left again last : R) (said cleared : Result Answer Failure) (told : Answer)
    → CanAct view table starts does first → DoesAction view table does first mid said
    → Leads view was_reset (now_of (view mid)) (now_of (view before)) → (view before).is_honest
    → DoesAction view table action.UnprotectFresh before left cleared
    → FollowsUnprotect (view before).device (view left).device (view again).device
    → (view again).journal ≡ (view left).journal → (view again).is_honest
    → DoesAction view table (action.Undo 0) again last (Ok told)
    → (view last).device.flash ≡ oldest_start starts (now_of (view first))

-- A simulator that starts ready beside an empty journal is where a session can begin.
abbrev pub StoredCanBegin : Type 0
StoredCanBegin =
    (chip : ChipData) (flash : List ℕ) (phase : Phase) (rig : MemoryData)
    → StandsSo (simulator_at chip flash phase) [] rig
    → IsReadyPhase rig.device.codes phase → IsStart [] (now_of (rig_state rig))

-- One that starts as another was left, whose device was of the same make as that which this started
-- with, has lost owed bytes alone.
abbrev pub StoredGoesOn : Type 0
StoredGoesOn =
    (chip : ChipData) (flash journal : List ℕ) (phase : Phase) (first left next : MemoryData)
    → StandsSo (simulator_at chip flash phase) journal first → SameMake first.device left.device
    → StandsSo (simulator_at left.device.chip left.device.flash left.device.phase) left.journal next
    → Leads rig_state lost_owed (now_of (rig_state left)) (now_of (rig_state next))
