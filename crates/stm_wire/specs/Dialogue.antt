-- What a command says on the line and has to hear, turn by turn, and the record of it.
use Rattle.std.specs.Prelude.{◌≡◌, ◌≢◌, ◌⊎◌, ℕ, ◌+◌, List, [], ◌∷◌, ◌++◌, Option, Some, None}
use Rattle.stm_wire.specs.Call.{Call, Put, Get, Append, Fetch}
use Rattle.stm_wire.specs.declared.fault.WireFault.{WireFault}
use Rattle.stm_wire.specs.declared.fault.WireFault.TheVariants.{Line, Nack, Quiet, Garbled}
use Rattle.stm_wire.specs.Reply.{ack, nack}

-- a turn of a dialogue with the bootloader
pub data Turn : Type 0 where
  -- the host sends this byte
  Says : ℕ → Turn
  -- the first byte of a reply has to be an acknowledgement
  Acknowledged : Turn
  -- a further byte of a reply has to be this one
  Expects : ℕ → Turn
  -- a further byte of a reply may be any; it was this one
  Learns : ℕ → Turn

-- these bytes are sent
abbrev pub says : List ℕ → List Turn
says [] = []
says (byte ∷ bytes) = Says byte ∷ says bytes

-- these bytes came
abbrev pub learns : List ℕ → List Turn
learns [] = []
learns (byte ∷ bytes) = Learns byte ∷ learns bytes

-- a step: its bytes are sent and acknowledged
abbrev pub step_turns : List ℕ → List Turn
step_turns bytes = says bytes ++ Acknowledged ∷ []

-- the bytes that a dialogue sends
abbrev pub sent_bytes : List Turn → List ℕ
sent_bytes [] = []
sent_bytes (Says byte ∷ turns) = byte ∷ sent_bytes turns
sent_bytes (Acknowledged ∷ turns) = sent_bytes turns
sent_bytes (Expects byte ∷ turns) = sent_bytes turns
sent_bytes (Learns byte ∷ turns) = sent_bytes turns

-- the call that a turn is
abbrev pub call_of : Turn → Call
call_of (Says byte) = Put byte
call_of Acknowledged = Get (Some ack)
call_of (Expects byte) = Get (Some byte)
call_of (Learns byte) = Get (Some byte)

abbrev pub calls_of : List Turn → List Call
calls_of [] = []
calls_of (turn ∷ turns) = call_of turn ∷ calls_of turns

-- a byte came that is none of these
abbrev pub IsOther : ℕ → ℕ → Call → Type 0
IsOther a b call = (came : ℕ) × (came ≢ a) × (came ≢ b) × (call ≡ Get (Some came))

-- what a call was that ended a dialogue at this turn with this fault
abbrev pub FailsBy : WireFault → Turn → Call → Type 0
FailsBy Line (Says byte) call = call ≡ Put byte
FailsBy Line Acknowledged call = call ≡ Get None
FailsBy Line (Expects byte) call = call ≡ Get None
FailsBy Line (Learns byte) call = call ≡ Get None
FailsBy Quiet (Says byte) call = ⊥
FailsBy Quiet Acknowledged call = call ≡ Get None
FailsBy Quiet (Expects byte) call = call ≡ Get None
FailsBy Quiet (Learns byte) call = call ≡ Get None
FailsBy Nack (Says byte) call = ⊥
FailsBy Nack Acknowledged call = call ≡ Get (Some nack)
FailsBy Nack (Expects byte) call = ⊥
FailsBy Nack (Learns byte) call = ⊥
FailsBy Garbled (Says byte) call = ⊥
FailsBy Garbled Acknowledged call = IsOther ack nack call
FailsBy Garbled (Expects byte) call = IsOther byte byte call
FailsBy Garbled (Learns byte) call = ⊥

-- the calls of a dialogue that went as it should up to one turn, which this fault ended; where the
-- line failed for want of memory, that last call may be missing
abbrev pub IsBrokenOff : WireFault → List Turn → List Call → Type 0
IsBrokenOff fault [] calls = ⊥
IsBrokenOff fault (turn ∷ turns) [] = fault ≡ Line
IsBrokenOff fault (turn ∷ turns) (call ∷ calls) =
    (FailsBy fault turn call × (calls ≡ []))
    ⊎ ((call ≡ call_of turn) × IsBrokenOff fault turns calls)

-- where there is a record, it went on by exactly these calls
abbrev pub Adds : List Call → Option (List Call) → Option (List Call) → Type 0
Adds calls None new = new ≡ None
Adds calls (Some past) new = new ≡ Some (past ++ calls)

-- where there is a record, it went on by calls that have P
abbrev pub GoesOn : (List Call → Type 0) → Option (List Call) → Option (List Call) → Type 0
GoesOn P None new = new ≡ None
GoesOn P (Some past) new = (calls : List Call) × (new ≡ Some (past ++ calls)) × P calls

-- the bytes that the calls put
abbrev pub puts_of : List Call → List ℕ
puts_of [] = []
puts_of (Put byte ∷ calls) = byte ∷ puts_of calls
puts_of (Get answer ∷ calls) = puts_of calls
puts_of (Append n ∷ calls) = puts_of calls
puts_of (Fetch ∷ calls) = puts_of calls

-- how many of the calls are gets
abbrev pub gets_of : List Call → ℕ
gets_of [] = 0
gets_of (Put byte ∷ calls) = gets_of calls
gets_of (Get answer ∷ calls) = 1 + gets_of calls
gets_of (Append n ∷ calls) = gets_of calls
gets_of (Fetch ∷ calls) = gets_of calls

-- the calls are puts and gets
abbrev pub AreLineCalls : List Call → Type 0
AreLineCalls [] = Unit {0}
AreLineCalls (Put byte ∷ calls) = AreLineCalls calls
AreLineCalls (Get answer ∷ calls) = AreLineCalls calls
AreLineCalls (Append n ∷ calls) = ⊥
AreLineCalls (Fetch ∷ calls) = ⊥
