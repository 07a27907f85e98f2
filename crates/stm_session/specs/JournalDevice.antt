-- How an undo reaches a device: it is settled by the journal's intent, whatever device it
-- is, and asked who it is.
use Rattle.std.specs.Prelude.{◌≡◌, ◌⊎◌, None, Some, Result, IfErr, OnOk}
use Rattle.stm_wire.specs.Chip.{ChipData}
use Rattle.stm_wire.specs.Device.{IsSettled}
use Rattle.stm_wire.specs.Moments.{LeavesOnly}
use Rattle.stm_wire.specs.Rig.{RigState}
use Rattle.stm_session.specs.declared.fault.Fault.{Fault}
use Rattle.stm_session.specs.Fault.{IsOutsideFault}
use Rattle.stm_session.specs.Refusals.{undo_misfit}
use Rattle.stm_session.specs.Undoes.{IsElsewhere}

-- The device is settled by the journal's intent, whatever device it is.
pub record Strays {T : Type 0} (old new : RigState) (result : Result T Fault) : Type 0 where
  pub moments : LeavesOnly (IsElsewhere old) old new
  pub honest : new.is_honest
  pub left : IsElsewhere old new.device new.journal
  pub settled : OnOk result (IsSettled new.device)
  pub fails : IfErr result IsOutsideFault

-- and asked whether it is this chip
pub record Meets {T : Type 0} (chip : ChipData) (old new : RigState)
    (result : Result T Fault) : Type 0 where
  pub moments : LeavesOnly (IsElsewhere old) old new
  pub honest : new.is_honest
  pub left : IsElsewhere old new.device new.journal
  pub accepted : OnOk result (undo_misfit chip chip.id old.device ≡ None)
  pub refused : IfErr result
      (λ fault. IsOutsideFault fault ⊎ (undo_misfit chip chip.id old.device ≡ Some fault))
