-- What a session tells of a device.
use Rattle.std.specs.Prelude.{◌≡◌, ◌⊎◌, List, None, Some, Result, IfErr, IfOk, OnOk}
use Rattle.stm_chip.specs.Document.{IsChipWith}
use Rattle.stm_wire.specs.Chip.{ChipData, erased_byte, page_count, flash_size}
use Rattle.stm_wire.specs.Device.{Device, IsSettled}
use Rattle.stm_wire.specs.Rig.{RigState}
use Rattle.stm_wire.specs.Moments.{LeavesOnly}
use Rattle.stm_journal.specs.Journals.{journal_of}
use Rattle.stm_session.specs.declared.information.Info.{Info}
use Rattle.stm_session.specs.declared.fault.Fault.{Fault}
use Rattle.stm_session.specs.Fault.{IsOutsideFault}
use Rattle.stm_session.specs.Opening.{AreCommandsOf}
use Rattle.stm_session.specs.Moments.{IsUnbegun}
use Rattle.stm_session.specs.Refusal.{opening_refusal}

-- the number, place, size, erase command and erased byte of this chip of the table
pub record Describes (table : List ChipData) (info : Info) : Type 0 where
  pub chip : ChipData
  pub listed : IsChipWith table info.id chip
  pub base : info.base ≡ chip.base
  pub pages : info.pages ≡ page_count chip
  pub size : info.size ≡ flash_size chip
  pub kind : info.kind ≡ chip.kind
  pub erased : info.erased ≡ erased_byte chip

-- what is told is so of the device
pub record IsInfoOf (d : Device) (info : Info) : Type 0 where
  pub id : info.id ≡ d.chip.id
  pub commands : AreCommandsOf d info.commands

-- The device is told; or it is refused, or a call failed. No segment is begun at any moment.
pub record Informs (table : List ChipData) (old new : RigState)
    (result : Result Info Fault) : Type 0 where
  pub moments : LeavesOnly (IsUnbegun old) old new
  pub honest : new.is_honest
  pub left : IsUnbegun old new.device new.journal
  pub told : IfOk result (IsInfoOf old.device)
  pub settled : OnOk result (IsSettled new.device)
  pub accepted : OnOk result (opening_refusal (journal_of old.journal) old.device table ≡ None)
  pub fails : IfErr result (λ fault. IsOutsideFault fault
      ⊎ (opening_refusal (journal_of old.journal) old.device table ≡ Some fault))
