-- The promises of run, info, identify and undo on an honest Rig, each as one record.
use Rattle.std.specs.Prelude.{◌≡◌, ◌≢◌, ℕ, ◌≤◌, List, [], length, Some, None, Result, IfErr}
use Rattle.stm_wire.specs.Chip.{ChipData}
use Rattle.stm_wire.specs.Dialogue.{GoesOn}
use Rattle.stm_wire.specs.Harmless.{Harmless}
use Rattle.stm_wire.specs.Rig.{RigState}
use Rattle.stm_chip.specs.Document.{IsChipWith}
use Rattle.stm_journal.specs.States.{StateData}
use Rattle.stm_journal.specs.Journals.{journal_of, good}
use Rattle.stm_journal.specs.Calls.{AreFetches, IsUntouched}
use Rattle.stm_journal.specs.declared.header.JournalHeader.{JournalHeader}
use Rattle.stm_session.specs.declared.contact.Told.{Told}
use Rattle.stm_session.specs.declared.information.Info.{Info}
use Rattle.stm_session.specs.declared.fault.Fault.{Fault}
use Rattle.stm_session.specs.declared.fault.Fault.TheVariants as faults
use Rattle.stm_session.specs.Moments.{BeginsNothing, IsSafe, IsUnbegun}
use Rattle.stm_session.specs.Opening.{TellsItself}
use Rattle.stm_session.specs.Refusal.{Refuses, unsent_refusal, RefusesUnsent}
use Rattle.stm_session.specs.Information.{Informs}
use Rattle.stm_session.specs.Undoable.{Undoable, state_at}
use Rattle.stm_session.specs.Meaning.{CommandData}
use Rattle.stm_session.specs.Answers.{OutcomeData}
use Rattle.stm_session.specs.Lines.{depth_at}
use Rattle.stm_session.specs.Refusals.{run_refusal, undo_refusal, undo_misfit}
use Rattle.stm_session.specs.Runs.{Runs}
use Rattle.stm_session.specs.Undoes.{Undoes, UndoesNothing, IsElsewhere, IsWithinLimit, taken_count}
use Rattle.stm_session.specs.Undoes.{byte_at_journal, risked_at}

-- what a run of these commands promises on an honest Rig: what it refuses, and what it does where
-- nothing is refused and what was begun before can be taken back
pub record RunContract {T : Type 0} (table : List ChipData) (commands : List CommandData)
    (old new : RigState) (result : Result T Fault)
    (outcomes_of : T → List OutcomeData) : Type 0 where
  -- what is refused before a byte is sent, of any device
  pub unsent : old.is_honest → (refusal : Fault)
      → unsent_refusal (journal_of old.journal) ≡ Some refusal
      → RefusesUnsent (IsUntouched old) refusal old new result
  pub unsent_calls : old.is_honest → (refusal : Fault)
      → unsent_refusal (journal_of old.journal) ≡ Some refusal
      → GoesOn AreFetches old.calls new.calls
  -- what is refused of a safe device, with any table
  pub refused : old.is_honest → IsSafe old.device → (refusal : Fault)
      → run_refusal (journal_of old.journal) old.device table commands ≡ Some refusal
      → Refuses (IsUnbegun old) refusal old new result
  pub runs : old.is_honest → (flashes : List (List ℕ)) → Undoable flashes old.device old.journal
      → IsChipWith table old.device.chip.id old.device.chip
      → run_refusal (journal_of old.journal) old.device table commands ≡ None
      → Runs commands flashes old new result outcomes_of
  pub spared : old.is_honest → old.journal ≡ [] → commands ≡ []
      → IfErr result (λ e. e ≢ faults.Memory)

-- what `info` promises on an honest Rig: what it refuses, and what it tells of a safe device
pub record InfoContract (table : List ChipData) (old new : RigState)
    (result : Result Info Fault) : Type 0 where
  pub unsent : old.is_honest → (refusal : Fault)
      → unsent_refusal (journal_of old.journal) ≡ Some refusal
      → RefusesUnsent (IsUntouched old) refusal old new result
  pub unsent_calls : old.is_honest → (refusal : Fault)
      → unsent_refusal (journal_of old.journal) ≡ Some refusal
      → GoesOn AreFetches old.calls new.calls
  pub informs : old.is_honest → IsSafe old.device → Informs table old new result
  pub spared : old.is_honest → old.journal ≡ [] → IfErr result (λ e. e ≢ faults.Memory)

-- a device is asked who it is, whether or not a table has its chip
pub record IdentifyContract (old new : RigState) (result : Result Told Fault) : Type 0 where
  -- what is refused before a byte is sent, of any device
  pub unsent : old.is_honest → (refusal : Fault)
      → unsent_refusal (journal_of old.journal) ≡ Some refusal
      → RefusesUnsent (IsUntouched old) refusal old new result
  pub unsent_calls : old.is_honest → (refusal : Fault)
      → unsent_refusal (journal_of old.journal) ≡ Some refusal
      → GoesOn AreFetches old.calls new.calls
  -- what a safe device tells where nothing is refused
  pub tells : old.is_honest → IsSafe old.device → unsent_refusal (journal_of old.journal) ≡ None
      → BeginsNothing old new result (TellsItself old.device)
  pub spared : old.is_honest → old.journal ≡ [] → IfErr result (λ e. e ≢ faults.Memory)

-- what an undo of so many segments promises on an honest Rig: what it refuses, and else what it
-- takes back; a count of 0 means all
pub record UndoContract (table : List ChipData) (count : ℕ) (old new : RigState)
    (result : Result ℕ Fault) : Type 0 where
  -- what is refused before a byte is sent, of any device
  pub refused : old.is_honest → (refusal : Fault)
      → undo_refusal (journal_of old.journal) table ≡ Some refusal
      → RefusesUnsent (IsUntouched old) refusal old new result
  pub refused_calls : old.is_honest → (refusal : Fault)
      → undo_refusal (journal_of old.journal) table ≡ Some refusal
      → GoesOn AreFetches old.calls new.calls
  -- a journal without a segment, of any device
  pub nothing : old.is_honest → (s : StateData) → journal_of old.journal ≡ good s
      → length s.stack ≡ 0 → UndoesNothing old new result
  pub nothing_calls : old.is_honest → (s : StateData) → journal_of old.journal ≡ good s
      → length s.stack ≡ 0 → GoesOn AreFetches old.calls new.calls
  -- a device that isn't the journal's, that settling does no harm outside the pages at risk, and
  -- that awaits no longer list than one of the journal's chip may
  pub elsewhere : old.is_honest → undo_refusal (journal_of old.journal) table ≡ None
      → 1 ≤ depth_at old.journal
      → (header : JournalHeader) (chip : ChipData) → (state_at old.journal).header ≡ Some header
      → IsChipWith table header.id chip
      → Harmless old.device (byte_at_journal old.journal) (risked_at old.journal)
      → length old.device.owed ≤ 4096
      → IsWithinLimit chip old → (refusal : Fault)
      → undo_misfit chip header.id old.device ≡ Some refusal
      → Refuses (IsElsewhere old) refusal old new result
  pub undoes : old.is_honest → (flashes : List (List ℕ)) → Undoable flashes old.device old.journal
      → IsChipWith table old.device.chip.id old.device.chip
      → Undoes (taken_count count (length flashes)) flashes old new result
  pub spared : old.is_honest → old.journal ≡ [] → IfErr result (λ e. e ≢ faults.Memory)
