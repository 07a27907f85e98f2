-- How a session begins, and what it then knows.
use Rattle.std.specs.Prelude.{◌≡◌, ◌⊎◌, false, List, take, Option, Some, None, Result, IfErr, OnOk}
use Rattle.std.specs.Prelude.{MatchResult}
use Rattle.stm_wire.specs.Chip.{ChipData}
use Rattle.stm_wire.specs.Device.{Device, IsSettled}
use Rattle.stm_wire.specs.Rig.{RigState}
use Rattle.stm_wire.specs.Moments.{LeavesOnly}
use Rattle.stm_wire.specs.declared.get_command.Commands.{Commands}
use Rattle.stm_chip.specs.Document.{IsChipWith}
use Rattle.stm_journal.specs.States.{is_unfinished, names_other}
use Rattle.stm_journal.specs.Calls.{IsUntouched}
use Rattle.stm_journal.specs.Journals.{IsLoaded, journal_of}
use Rattle.stm_session.specs.declared.contact.Told.{Told}
use Rattle.stm_session.specs.declared.opening.Opened.{Opened}
use Rattle.stm_session.specs.declared.fault.Fault.{Fault}
use Rattle.stm_session.specs.Fault.{IsJournalOrMemory, IsOutsideFault}
use Rattle.stm_session.specs.Moments.{IsUnbegun}
use Rattle.stm_session.specs.Refusal.{misfit_refusal, opening_refusal}

-- The journal was read, and isn't refused; or it is, or couldn't be read. Nothing
-- was changed at any moment.
pub record LoadsUnless {T : Type 0} (refusal : Option Fault) (old new : RigState)
    (result : Result T Fault) : Type 0 where
  pub moments : LeavesOnly (IsUntouched old) old new
  pub honest : new.is_honest
  pub left : IsUntouched old new.device new.journal
  pub same : OnOk result (new.device ≡ old.device)
  pub accepted : OnOk result (refusal ≡ None)
  pub refused : IfErr result (λ fault. IsJournalOrMemory fault ⊎ (refusal ≡ Some fault))

-- these are the version and the codes of the device
pub record AreCommandsOf (d : Device) (commands : Commands) : Type 0 where
  pub version : commands.version ≡ d.version
  pub codes : take commands.count commands.codes ≡ d.codes

-- what a device tells of itself is so
pub record TellsItself (d : Device) (told : Told) : Type 0 where
  pub commands : AreCommandsOf d told.commands
  pub id : told.id ≡ d.chip.id

-- On any line: the chip is one of the table, and the journal can go on with it.
pub record IsCoherent (table : List ChipData) (opened : Opened) : Type 0 where
  pub chip : IsChipWith table opened.chip.now.id opened.chip.now
  pub finished : is_unfinished opened.journal.state ≡ false
  pub own : names_other opened.chip.now.id opened.journal.state ≡ false
  pub fits : misfit_refusal opened.chip.now opened.journal.state ≡ None

-- The journal in memory is the Rig's, the device is settled and told what it is, nothing was
-- changed, and nothing is refused.
pub record IsOpened (table : List ChipData) (old new : RigState) (opened : Opened) : Type 0 where
  pub loaded : IsLoaded opened.journal old.journal
  pub settled : IsSettled new.device
  pub id : opened.chip.now.id ≡ old.device.chip.id
  pub commands : AreCommandsOf old.device opened.commands
  pub accepted : opening_refusal (journal_of old.journal) old.device table ≡ None

-- A session is opened; or it is refused, or failed. No segment is begun at any moment.
pub record Opens (table : List ChipData) (old new : RigState)
    (result : Result Opened Fault) : Type 0 where
  pub moments : LeavesOnly (IsUnbegun old) old new
  pub honest : new.is_honest
  pub left : IsUnbegun old new.device new.journal
  pub answers : MatchResult result (IsOpened table old new)
      (λ fault. IsOutsideFault fault
      ⊎ (opening_refusal (journal_of old.journal) old.device table ≡ Some fault))
