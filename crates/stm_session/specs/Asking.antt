-- Questions to a settled device: nothing is changed by them, and no byte can change anything
-- wherever one is stopped.
use Rattle.std.specs.Prelude.{◌≡◌, ℕ, ◌≤◌, List, [], length, Result, IfErr, IfOk, OnOk}
use Rattle.stm_wire.specs.Awaited.{Awaits}
use Rattle.stm_wire.specs.Device.{Device}
use Rattle.stm_wire.specs.Harmless.{Harmless}
use Rattle.stm_wire.specs.Rig.{RigState}
use Rattle.stm_wire.specs.Moments.{LeavesOnly}
use Rattle.stm_session.specs.declared.fault.Fault.{Fault}
use Rattle.stm_session.specs.Fault.{IsOutsideFault}
use Rattle.stm_session.specs.Moments.{SameMake}

-- Nothing was changed, and whichever byte settles the device does no harm to any page; so many of it
-- suffice.
pub record IsStill (old : RigState) (d : Device) (journal : List ℕ) : Type 0 where
  pub journal_same : journal ≡ old.journal
  pub make : SameMake old.device d
  pub flash : d.flash ≡ old.device.flash
  pub harmless : (byte : ℕ) → Harmless d byte []
  pub awaits : (byte : ℕ) → Awaits byte 267 d
  pub owed : length d.owed ≤ 4096

-- Calls that only ask: each moment is still; they fail by the line, the journal or memory alone; at
-- Ok the device is as it was, and what they were for is done.
pub record Asks {T : Type 0} (old new : RigState) (result : Result T Fault)
    (Done : T → Type 0) : Type 0 where
  pub moments : LeavesOnly (IsStill old) old new
  pub fails : IfErr result IsOutsideFault
  pub left : IsStill old new.device new.journal
  pub honest : new.is_honest
  pub same : OnOk result (new.device ≡ old.device)
  pub done : IfOk result Done
