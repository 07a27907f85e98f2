-- What one command of a run does to a Rig that follows the model.
use Rattle.std.specs.Prelude.{◌≡◌, ◌⊎◌, ℕ, ◌+◌, Bool, true, false, if◌then◌else◌, List, [], Result}
use Rattle.std.specs.Prelude.{Ok, Err, IfErr, IfOk, OnOk}
use Rattle.stm_wire.specs.Device.{Device}
use Rattle.stm_wire.specs.Rig.{RigState}
use Rattle.stm_wire.specs.Moments.{LeavesOnly}
use Rattle.stm_journal.specs.declared.entry.Entry.{Entry}
use Rattle.stm_journal.specs.Journals.{Loaded}
use Rattle.stm_session.specs.declared.fault.Fault.{Fault}
use Rattle.stm_session.specs.declared.fault.Fault.TheVariants as faults
use Rattle.stm_session.specs.Fault.{IsOutsideFault}
use Rattle.stm_session.specs.Answers.{OutcomeData, outcome_of}
use Rattle.stm_session.specs.Lines.{depth_at, is_named_at, segment_entries}
use Rattle.stm_session.specs.Meaning.{CommandData, before_if, flash_after, is_change}
use Rattle.stm_session.specs.Segments.{AmidCommand}
use Rattle.stm_session.specs.Steps.{AddsLines, IsSteady, Stands}

-- the flash that a command leaves, of a Rig as it is
abbrev pub flash_left : RigState → CommandData → List ℕ
flash_left old c = flash_after old.device.chip old.device.flash c

-- its lines: those of its segment, where it begins one
abbrev pub lines_if : Bool → List Entry → List Entry
lines_if change lines = if change then lines else []

abbrev pub command_lines : RigState → CommandData → List Entry
command_lines old c =
    lines_if (is_change c) (segment_entries (is_named_at old.journal) old.device.chip
    (depth_at old.journal + 1) old.device.flash (flash_left old c))

-- and what it answers: an outcome, or the least address that differs
abbrev pub answer_on : RigState → CommandData → Result OutcomeData ℕ
answer_on old c = outcome_of old.device.chip (depth_at old.journal + 1) old.device.flash c

-- A moment of a command: one that begins a segment has begun it, or hasn't; one that
-- only asks changes nothing.
abbrev pub AmidOne : Bool → List Entry → List (List ℕ) → List ℕ → RigState → Device
    → List ℕ → Type 0
AmidOne true lines flashes after old d journal = AmidCommand lines flashes after old d journal
AmidOne false lines flashes after old d journal = Stands lines flashes old d journal

-- The image of a verify doesn't agree, first at this address; nothing was changed, and
-- the device is as it was.
pub record TellsDifference (c : CommandData) (old new : RigState) (fault : Fault) : Type 0 where
  pub address : ℕ
  pub is : fault ≡ faults.Differs address
  pub answer : answer_on old c ≡ Err address
  pub journal_same : new.journal ≡ old.journal
  pub device_same : new.device ≡ old.device

-- A command, or a beginning of one: each moment is such a one. It fails by the line, the journal
-- or memory, or tells where its image differs. At Ok all is steady again, with a segment more
-- where it begins one; just its lines are added; the flash is the one after it, and its outcome
-- that of the flash before it.
pub record DoesCommand {T : Type 0} (flashes : List (List ℕ)) (c : CommandData) (l2 : Loaded)
    (old new : RigState) (result : Result T Fault) (outcome_in : T → OutcomeData) : Type 0 where
  pub moments : LeavesOnly
      (AmidOne (is_change c) (command_lines old c) flashes (flash_left old c) old) old new
  pub honest : new.is_honest
  pub fails : IfErr result (λ fault. IsOutsideFault fault ⊎ TellsDifference c old new fault)
  pub steady : OnOk result (IsSteady (before_if (is_change c) old.device.flash flashes) l2 new)
  pub lines : OnOk result (AddsLines (command_lines old c) old.journal new.journal)
  pub flash : OnOk result (new.device.flash ≡ flash_left old c)
  pub answer : IfOk result (λ x. answer_on old c ≡ Ok (outcome_in x))
