-- A read that the device may refuse: its bytes come, or a NACK comes in place of an acknowledgement,
-- and no more of the frame is sent.
use Rattle.std.specs.Prelude.{◌≡◌, ◌⊎◌, ℕ, ◌-◌, ◌≤◌, Bool, true, false, IsTrue, if◌then◌else◌}
use Rattle.std.specs.Prelude.{List, [], ◌∷◌, ◌++◌, Result, IfOk, OnOk}
use Rattle.stm_wire.specs.declared.fault.WireFault.{WireFault}
use Rattle.stm_wire.specs.Chip.{ChipData}
use Rattle.stm_wire.specs.Telling.{can_read, is_readable}
use Rattle.stm_wire.specs.Command.{IsOkOrLine, OwesFirst, told_bytes}
use Rattle.stm_wire.specs.Device.{Device, Fed, IsDevice, IsSettled}
use Rattle.stm_wire.specs.Dialogue.{Turn, Expects, says, step_turns}
use Rattle.stm_wire.specs.Frames.{address_bytes, address_turns, command, read_frame, read_turns}
use Rattle.stm_wire.specs.Frames.{with_checksum}
use Rattle.stm_wire.specs.Moments.{PartlyFed}
use Rattle.stm_wire.specs.Reply.{ack, nack}
use Rattle.stm_wire.specs.Rig.{RigState}
use Rattle.stm_wire.specs.Sending.{IsHeldToEnd, PartSentHonestly}
use Rattle.stm_wire.specs.Stopped.{IsStoppedSafely}

-- a step that is refused
abbrev pub refused_turns : List ℕ → List Turn
refused_turns bytes = says bytes ++ Expects nack ∷ []

-- a step that is acknowledged, or refused
abbrev pub answered_turns : Bool → List ℕ → List Turn
answered_turns true bytes = step_turns bytes
answered_turns false bytes = refused_turns bytes

abbrev pub answer_byte : Bool → ℕ
answer_byte true = ack
answer_byte false = nack

-- whatever device the bytes leave, it owes one of these first
abbrev pub LeavesAnswer : List ℕ → Device → Type 0
LeavesAnswer bytes old =
    (new : Device) → Fed bytes old new → OwesFirst ack new ⊎ OwesFirst nack new

-- the code and the address of a read
abbrev pub read_head : ℕ → List ℕ
read_head address = command 0x11 ++ with_checksum (address_bytes address)

-- The device refused the code of a read, its address or its count: what it was sent up to there, and
-- the dialogue of that.
pub data IsRefusedRead (address size : ℕ) (frame : List ℕ) (turns : List Turn) : Type 0 where
  at_code : frame ≡ command 0x11 → turns ≡ refused_turns (command 0x11)
      → IsRefusedRead address size frame turns
  at_address : frame ≡ read_head address
      → turns ≡ step_turns (command 0x11) ++ refused_turns (with_checksum (address_bytes address))
      → IsRefusedRead address size frame turns
  at_count : frame ≡ read_frame address size
      → turns ≡ address_turns 0x11 address ++ refused_turns (command (size - 1))
      → IsRefusedRead address size frame turns

-- these bytes were read, or the device refused so many
abbrev pub ReadsOrIsRefused : ℕ → ℕ → List ℕ → RigState → RigState → Bool → Type 0
ReadsOrIsRefused address size bytes old new true =
    IsHeldToEnd (read_frame address size) (read_turns address bytes) old new
ReadsOrIsRefused address size bytes old new false = (frame : List ℕ) × (turns : List Turn)
    × IsRefusedRead address size frame turns × IsHeldToEnd frame turns old new

-- On a device that follows the model: all that it may be sent, which has no count where the device
-- tells nothing from that address.
abbrev pub refusable_frame : ChipData → ℕ → ℕ → List ℕ
refusable_frame chip address size =
    if is_readable chip address then read_frame address size else read_head address

-- It told what it tells there, or has nothing to tell.
abbrev pub IsTold : ℕ → ℕ → List ℕ → Device → Bool → Type 0
IsTold address size bytes d true =
    IsTrue (can_read d.chip address size) × (bytes ≡ told_bytes address size d)
IsTold address size bytes d false = can_read d.chip address size ≡ false

-- A beginning of that is sent to it; at Ok it is as it was, and these bytes are what it tells there,
-- where it tells any; no fault but that of the line comes.
pub record AsksSafely (address size : ℕ) (bytes : List ℕ) (old new : RigState)
    (result : Result Bool WireFault) : Type 0 where
  pub sent : PartSentHonestly (refusable_frame old.device.chip address size) old new
  pub same : OnOk result (new.device ≡ old.device)
  pub told : IfOk result (IsTold address size bytes old.device)
  pub fails : IsOkOrLine result

-- nothing has changed wherever that is stopped, and no byte can change anything
abbrev pub RefusableReadsChangeNothing : Type 0
RefusableReadsChangeNothing = (old d : Device) (byte address size : ℕ) → IsDevice old
    → IsSettled old → 1 ≤ size → size ≤ 256 → PartlyFed (refusable_frame old.chip address size) old d
    → IsStoppedSafely old byte 267 [] d × (d.flash ≡ old.flash)
