-- Calls after which nothing is promised of the device: Go, and the protections.
use Rattle.std.specs.Prelude.{◌≡◌, ◌⊎◌, ℕ, List, ◌++◌, Result, IfErr, OnOk, IsTrue}
use Rattle.stm_wire.specs.Device.{Device, IsSettled}
use Rattle.stm_wire.specs.Dialogue.{Turn, calls_of}
use Rattle.stm_wire.specs.Exchange.{is_listed}
use Rattle.stm_wire.specs.Moments.{FedAndTaken, LeavesOnly, PartlyFed}
use Rattle.stm_wire.specs.Rig.{RigState}
use Rattle.stm_wire.specs.Settling.{SettlesWithin}
use Rattle.stm_wire.specs.SettlingCalls.{EndsSettled}
use Rattle.stm_wire.specs.Call.{Call}
use Rattle.stm_journal.specs.Calls.{AreFetches, IsUntouched}
use Rattle.stm_session.specs.declared.fault.Fault.{Fault}
use Rattle.stm_session.specs.Fault.{IsJournalOrMemory}
use Rattle.stm_session.specs.Moments.{IsSafe, IsUnbegun, SameMake}

-- the journal was read, the device was settled with 7F, which it refused or it was fresh, and then
-- came this dialogue, whole
pub record IsSettledThen (turns : List Turn) (calls : List Call) : Type 0 where
  pub fetches : List Call
  pub are_fetches : AreFetches fetches
  pub settling : List Call
  pub settles : SettlesWithin 0x7F 131072 settling
  pub settled : EndsSettled 0x7F 131072 settling
  pub is : calls ≡ fetches ++ (settling ++ calls_of turns)

-- a safe device that lists the command of this code
pub record CanLeave (code : ℕ) (d : Device) : Type 0 where
  pub safe : IsSafe d
  pub listed : IsTrue (is_listed d.codes code)

-- a settled device of the same make, with the same flash
pub record IsSettledSame (old d : Device) : Type 0 where
  pub settled : IsSettled d
  pub make : SameMake old d
  pub flash : d.flash ≡ old.flash

-- such a device was fed a beginning of the frame, with the same journal
abbrev pub LeftByFrame : List ℕ → RigState → Device → List ℕ → Type 0
LeftByFrame frame old d journal =
    (journal ≡ old.journal)
    × ((mid : Device) × IsSettledSame old.device mid × PartlyFed frame mid d)

-- the device wasn't sent the frame yet, or was sent a beginning of it
abbrev pub LeftByLeaving : List ℕ → RigState → Device → List ℕ → Type 0
LeftByLeaving frame old d journal = IsUnbegun old d journal ⊎ LeftByFrame frame old d journal

-- At each moment, and after a fault too, at most a beginning of this frame was sent, to a
-- settled device with the old flash; at Ok all of it was. Where the journal or memory
-- failed, nothing was sent.
pub record Leaves {T : Type 0} (frame : List ℕ) (old new : RigState)
    (result : Result T Fault) : Type 0 where
  pub moments : LeavesOnly (LeftByLeaving frame old) old new
  pub honest : new.is_honest
  pub left : LeftByLeaving frame old new.device new.journal
  pub unsent :
      IfErr result (λ fault. IsJournalOrMemory fault → IsUntouched old new.device new.journal)
  pub fed :
      OnOk result ((mid : Device) × IsSettledSame old.device mid × FedAndTaken frame mid new.device)
