-- What the moments of a session's calls leave.
use Rattle.std.specs.Prelude.{◌≡◌, ℕ, ◌≤◌, List, [], length, Result, IfErr, IfOk, OnOk}
use Rattle.stm_wire.specs.Device.{Device, IsSettled}
use Rattle.stm_wire.specs.Harmless.{Harmless}
use Rattle.stm_wire.specs.Rig.{RigState}
use Rattle.stm_wire.specs.Moments.{LeavesOnly}
use Rattle.stm_session.specs.declared.fault.Fault.{Fault}
use Rattle.stm_session.specs.Fault.{IsOutsideFault}

-- the same chip, version and codes
pub record SameMake (old new : Device) : Type 0 where
  pub chip : new.chip ≡ old.chip
  pub version : new.version ≡ old.version
  pub codes : new.codes ≡ old.codes

-- a device that 7F settles without harm
pub record IsSafe (d : Device) : Type 0 where
  pub harmless : Harmless d 0x7F []
  pub owed : length d.owed ≤ 4096

-- No segment was begun: the same journal and flash, on a device that 7F settles without harm.
pub record IsUnbegun (old : RigState) (d : Device) (journal : List ℕ) : Type 0 where
  pub journal_same : journal ≡ old.journal
  pub make : SameMake old.device d
  pub flash : d.flash ≡ old.device.flash
  pub safe : IsSafe d

-- Calls that begin no segment: each moment is such a one; they fail by the line, the journal or
-- memory alone; and at Ok the device is settled, and what they were for is done.
pub record BeginsNothing {T : Type 0} (old new : RigState) (result : Result T Fault)
    (Done : T → Type 0) : Type 0 where
  pub moments : LeavesOnly (IsUnbegun old) old new
  pub fails : IfErr result IsOutsideFault
  pub left : IsUnbegun old new.device new.journal
  pub honest : new.is_honest
  pub settled : OnOk result (IsSettled new.device)
  pub done : IfOk result Done
