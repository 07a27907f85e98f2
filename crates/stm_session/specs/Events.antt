-- What happens to a device and its journal: calls that returned or were stopped, and
-- what befalls between them.
use Rattle.std.specs.Prelude.{◌≡◌, ◌⊎◌, ℕ, false, List, [], ◌∷◌, Some, Result, Ok, Err}
use Rattle.stm_wire.specs.Chip.{ChipData}
use Rattle.stm_wire.specs.Device.{Device, LosesOwed, reset}
use Rattle.stm_wire.specs.Rig.{RigState}
use Rattle.stm_chip.specs.Document.{IsChipWith, IsNewId}
use Rattle.stm_journal.specs.Calls.{IsUntouched}
use Rattle.stm_journal.specs.Journals.{journal_of}
use Rattle.stm_session.specs.declared.contact.Told.{Told}
use Rattle.stm_session.specs.declared.information.Info.{Info}
use Rattle.stm_session.specs.declared.fault.Fault.{Fault}
use Rattle.stm_session.specs.PowerLoss.{LosesPower}
use Rattle.stm_session.specs.Refusal.{RefusesUnsent, open_refusal}
use Rattle.stm_session.specs.Undoable.{is_unfinished_at}
use Rattle.stm_session.specs.Meaning.{CommandData}
use Rattle.stm_session.specs.Answers.{OutcomeData}
use Rattle.stm_session.specs.Promises.{RunContract, IdentifyContract, InfoContract, UndoContract}
use Rattle.stm_session.specs.Fresh.{IsReset}
use Rattle.stm_session.specs.Unprotecting.{UnprotectContract, FollowsUnprotect}

-- what a stop leaves and the next call finds
pub record World : Type 0 where
  pub device : Device
  pub journal : List ℕ

-- the device and the journal of a Rig, as they are now
abbrev pub now_of : RigState → World
now_of rig = record { device = rig.device; journal = rig.journal }

-- On Rigs of this type: a call that returned, or was stopped at a moment of it, with the table that
-- it was given; a `go` or a protection that the journal refuses; a Write Unprotect to a device that
-- was reset, also while the journal is open, with the reset behind it; and between calls the way
-- back given up, a reset of the device, owed bytes that are lost, and a loss of its power, also
-- while a command that was stopped was at work.
pub data Event (R : Type 0) : Type 0 where
  ran : (table : List ChipData) (commands : List CommandData) (old new : R)
      (result : Result (List OutcomeData) Fault) → Event R
  run_stopped : (table : List ChipData) (commands : List CommandData) (old new : R)
      (result : Result (List OutcomeData) Fault) → Event R
  informed : (table : List ChipData) (old new : R) (result : Result Info Fault) → Event R
  info_stopped : (table : List ChipData) (old new : R) (result : Result Info Fault) → Event R
  identified : (old new : R) (result : Result Told Fault) → Event R
  identify_stopped : (old new : R) (result : Result Told Fault) → Event R
  undid : (table : List ChipData) (count : ℕ) (old new : R) (result : Result ℕ Fault) → Event R
  undo_stopped : (table : List ChipData) (count : ℕ) (old new : R)
      (result : Result ℕ Fault) → Event R
  left_refused : (refusal : Fault) (old new : R) (result : Result (Unit {0}) Fault) → Event R
  refusal_stopped : (refusal : Fault) (old new : R) (result : Result (Unit {0}) Fault) → Event R
  unprotected : (old new : R) (result : Result (Unit {0}) Fault) → Event R
  unprotect_stopped : (old new : R) (result : Result (Unit {0}) Fault) → Event R
  kept : Event R
  was_reset : Event R
  lost_owed : Event R
  lost_power : Event R

-- what a call answered, by the outcomes that its answer tells
abbrev pub told_by : {T : Type 0} → (T → List OutcomeData) → Result T Fault
    → Result (List OutcomeData) Fault
told_by outcomes_of (Ok x) = Ok (outcomes_of x)
told_by outcomes_of (Err e) = Err e

-- these outcomes tell themselves
abbrev pub themselves : List OutcomeData → List OutcomeData
themselves outcomes = outcomes

-- a call on an honest Rig that finds this
abbrev pub Begins : World → RigState → Type 0
Begins w old = old.is_honest × (now_of old ≡ w)

-- a stop at some moment of it leaves this
abbrev pub Stops : RigState → RigState → World → Type 0
Stops old new w = new.left_since old.moment w.device w.journal

-- a Write Unprotect, stopped at some moment that leaves some device, which goes on by the premise
pub record UnprotectStops (old new : RigState) (w w2 : World) : Type 0 where
  pub left : Device
  pub stops : Stops old new (record { device = left; journal = w2.journal })
  pub follows : FollowsUnprotect w.device left w2.device

-- the table holds the device's own chip under its id, if it has that id at all
abbrev pub Knows : List ChipData → World → Type 0
Knows table w = IsNewId table w.device.chip.id ⊎ IsChipWith table w.device.chip.id w.device.chip

-- the event leads from one to the other; a Rig is seen through its view
abbrev pub Leads : {R : Type 0} → (R → RigState) → Event R → World → World → Type 0
Leads view (ran table commands old new result) w w2 =
    Begins w (view old) × Knows table w
    × RunContract table commands (view old) (view new) result themselves
    × (now_of (view new) ≡ w2)
Leads view (run_stopped table commands old new result) w w2 =
    Begins w (view old) × Knows table w
    × RunContract table commands (view old) (view new) result themselves
    × Stops (view old) (view new) w2
Leads view (informed table old new result) w w2 =
    Begins w (view old) × InfoContract table (view old) (view new) result × (now_of (view new) ≡ w2)
Leads view (info_stopped table old new result) w w2 =
    Begins w (view old) × InfoContract table (view old) (view new) result
    × Stops (view old) (view new) w2
Leads view (identified old new result) w w2 =
    Begins w (view old) × IdentifyContract (view old) (view new) result × (now_of (view new) ≡ w2)
Leads view (identify_stopped old new result) w w2 =
    Begins w (view old) × IdentifyContract (view old) (view new) result
    × Stops (view old) (view new) w2
Leads view (undid table count old new result) w w2 =
    Begins w (view old) × Knows table w × UndoContract table count (view old) (view new) result
    × (now_of (view new) ≡ w2)
Leads view (undo_stopped table count old new result) w w2 =
    Begins w (view old) × Knows table w × UndoContract table count (view old) (view new) result
    × Stops (view old) (view new) w2
Leads view (left_refused refusal old new result) w w2 =
    Begins w (view old) × (open_refusal (journal_of w.journal) ≡ Some refusal)
    × RefusesUnsent (IsUntouched (view old)) refusal (view old) (view new) result
    × (now_of (view new) ≡ w2)
Leads view (refusal_stopped refusal old new result) w w2 =
    Begins w (view old) × (open_refusal (journal_of w.journal) ≡ Some refusal)
    × RefusesUnsent (IsUntouched (view old)) refusal (view old) (view new) result
    × Stops (view old) (view new) w2
Leads view (unprotected old new result) w w2 =
    Begins w (view old) × IsReset w.device × UnprotectContract (view old) (view new) result
    × FollowsUnprotect w.device (view new).device w2.device × (w2.journal ≡ (view new).journal)
Leads view (unprotect_stopped old new result) w w2 =
    Begins w (view old) × IsReset w.device × UnprotectContract (view old) (view new) result
    × UnprotectStops (view old) (view new) w w2
Leads view kept w w2 =
    (is_unfinished_at w.journal ≡ false) × (w2.device ≡ w.device) × (w2.journal ≡ [])
Leads view was_reset w w2 = w2 ≡ record { device = reset w.device; journal = w.journal }
Leads view lost_owed w w2 = LosesOwed w.device w2.device × (w2.journal ≡ w.journal)
Leads view lost_power w w2 = LosesPower w.journal w.device w2.device × (w2.journal ≡ w.journal)

-- an event, and what it led to
pub record Happening (R : Type 0) : Type 0 where
  pub event : Event R
  pub after : World

-- each event of the history leads on from where the one before led
abbrev pub AllLead : {R : Type 0} → (R → RigState) → List (Happening R) → World → Type 0
AllLead view [] w = Unit {0}
AllLead view (x ∷ history) w = Leads view x.event w x.after × AllLead view history x.after

-- where a history ends
abbrev pub end_of : {R : Type 0} → List (Happening R) → World → World
end_of [] w = w
end_of (x ∷ history) w = end_of history x.after

-- A law above the definition: what a run promises with whatever answer, it promises of the outcomes
-- which that answer tells.
abbrev pub OutcomesAreTheRun : (R T : Type 0) → (R → RigState) → Type 0
OutcomesAreTheRun R T view = (table : List ChipData) (commands : List CommandData) (old new : R)
    (result : Result T Fault)
    (outcomes_of : T → List OutcomeData)
    → RunContract table commands (view old) (view new) result outcomes_of
    → RunContract table commands (view old) (view new) (told_by outcomes_of result) themselves
