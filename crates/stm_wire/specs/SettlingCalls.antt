-- The calls of settling on any line that keeps a record: what is sent and taken, and how they end
-- at each answer.
use Rattle.std.specs.Prelude.{◌≡◌, ◌≢◌, ◌⊎◌, ℕ, ◌-◌, ◌<◌, ◌≤◌, ◌==◌, ◌||◌, min, nat_le, nat_lt, List, []}
use Rattle.std.specs.Prelude.{◌∷◌, ◌++◌, if◌then◌else◌, length, replicate, Bool, true, false}
use Rattle.std.specs.Prelude.{Option, Some, None}
use Rattle.stm_wire.specs.declared.fault.WireFault.{WireFault}
use Rattle.stm_wire.specs.declared.fault.WireFault.TheVariants.{Nack, Quiet, Garbled}
use Rattle.stm_wire.specs.declared.intent.Intent.{Intent}
use Rattle.stm_wire.specs.Call.{Call, Put, Get, Append, Fetch}
use Rattle.stm_wire.specs.Reply.{ack, nack}
use Rattle.stm_wire.specs.Dialogue.{GoesOn, puts_of}
use Rattle.stm_wire.specs.Intents.{settling_byte}

-- Draining:

-- these bytes came, one at each get
abbrev pub taken : List ℕ → List Call
taken [] = []
taken (byte ∷ bytes) = Get (Some byte) ∷ taken bytes

-- one of the bytes is NACK
abbrev pub has_nack : List ℕ → Bool
has_nack [] = false
has_nack (byte ∷ bytes) = (byte == nack) || has_nack bytes

-- bytes were taken until it was quiet, and this says whether one of them was NACK
pub record IsDrained (seen : Bool) (calls : List Call) : Type 0 where
  pub bytes : List ℕ
  pub is : calls ≡ taken bytes ++ Get None ∷ []
  pub has : has_nack bytes ≡ seen

-- the calls end with more bytes than a draining takes
pub record Floods (calls : List Call) : Type 0 where
  pub before : List Call
  pub bytes : List ℕ
  pub is : calls ≡ before ++ taken bytes
  pub many : length bytes ≡ 4097

-- Batches:

-- the byte so often with no get between, and then what is owed is taken
pub record IsBatch (byte count : ℕ) (seen : Bool) (calls : List Call) : Type 0 where
  pub drained : List Call
  pub is : calls ≡ replicate count (Put byte) ++ drained
  pub is_drained : IsDrained seen drained

-- how many bytes a batch behind the first has at most: the second 1,024, any other 7,168
abbrev pub most_in_batch : ℕ → ℕ
most_in_batch sent = if nat_lt sent 1280 then 1024 else 7168

-- A batch has 256 bytes where none was sent before it, and where at most 512 of the limit are left,
-- or as many as the limit leaves above two. Any other has as many as leave 256 of the limit, or as
-- many as it has at most.
abbrev pub batch_size : ℕ → ℕ → ℕ
batch_size sent left =
    if nat_lt sent 256 || nat_le left 512 then min (left - 2) 256
    else min (left - 256) (most_in_batch sent)

-- Batches of such sizes. All but the last brought no NACK, and this says whether the last did. So
-- many bytes of the limit are left.
pub data AreBatches (byte limit : ℕ) : ℕ → Bool → List Call → Type 0 where
  none : AreBatches byte limit limit false []
  more : (left count : ℕ) (seen : Bool) (calls batch : List Call)
      → AreBatches byte limit left false calls
      → 2 < left → count ≡ batch_size (limit - left) left → IsBatch byte count seen batch
      → AreBatches byte limit (left - count) seen (calls ++ batch)

-- all batches that are sent: until one brought a NACK, or two bytes are left
pub data IsBatched (byte limit left : ℕ) (calls : List Call) : Type 0 where
  answered : AreBatches byte limit left true calls → IsBatched byte limit left calls
  used_up : left ≤ 2 → AreBatches byte limit left false calls → IsBatched byte limit left calls

-- Single bytes:

-- first comes a get, and it brings no NACK
abbrev pub HearsNoNack : List Call → Type 0
HearsNoNack [] = ⊥
HearsNoNack (Put byte ∷ calls) = ⊥
HearsNoNack (Get answer ∷ calls) = answer ≢ Some nack
HearsNoNack (Append n ∷ calls) = ⊥
HearsNoNack (Fetch ∷ calls) = ⊥

-- no byte put was refused: after each came a get next, which brought no NACK
abbrev pub IsUnrefused : List Call → Type 0
IsUnrefused [] = Unit {0}
IsUnrefused (Put byte ∷ calls) = HearsNoNack calls × IsUnrefused calls
IsUnrefused (Get answer ∷ calls) = IsUnrefused calls
IsUnrefused (Append n ∷ calls) = IsUnrefused calls
IsUnrefused (Fetch ∷ calls) = IsUnrefused calls

-- the byte was put so often, and none of these was refused
pub record AreUnrefused (byte count : ℕ) (calls : List Call) : Type 0 where
  pub each : IsUnrefused calls
  pub puts : puts_of calls ≡ replicate count byte

-- the byte was refused, and what came after NACK was taken
pub record IsRefused (byte : ℕ) (calls : List Call) : Type 0 where
  pub seen : Bool
  pub drained : List Call
  pub is : calls ≡ Put byte ∷ Get (Some nack) ∷ drained
  pub is_drained : IsDrained seen drained

-- 7F was answered by ACK, and what came after that was taken
pub record IsConnected (calls : List Call) : Type 0 where
  pub seen : Bool
  pub drained : List Call
  pub is : calls ≡ Put 0x7F ∷ Get (Some ack) ∷ drained
  pub is_drained : IsDrained seen drained

-- on a connected device the byte begins a pair, and once more it is refused
abbrev pub ending : ℕ → List Call
ending byte = Put byte ∷ Get None ∷ Put byte ∷ Get (Some nack) ∷ Get None ∷ []

-- a fresh device was connected, and what the byte then begins is ended
pub record IsReconnected (byte : ℕ) (calls : List Call) : Type 0 where
  pub connecting : List Call
  pub is_connected : IsConnected connecting
  pub is : calls ≡ connecting ++ ending byte

-- a byte came
abbrev pub IsAnswer : List Call → Type 0
IsAnswer calls = (x : ℕ) × (calls ≡ Get (Some x) ∷ [])

-- a byte came for this one
abbrev pub IsAnswerTo : ℕ → List Call → Type 0
IsAnswerTo byte calls = (x : ℕ) × (calls ≡ Put byte ∷ Get (Some x) ∷ [])

-- 7F stayed without an answer
abbrev pub IsUnanswered : List Call → Type 0
IsUnanswered calls = calls ≡ Put 0x7F ∷ Get None ∷ []

-- 7F was answered, but not by ACK
abbrev pub IsNoAck : List Call → Type 0
IsNoAck calls = (x : ℕ) × (x ≢ ack) × (calls ≡ Put 0x7F ∷ Get (Some x) ∷ [])

-- or more bytes came than a draining takes
abbrev pub IsUnconnected : List Call → Type 0
IsUnconnected calls = Floods calls ⊎ IsNoAck calls

-- the byte was not refused as it should be: by NACK, and then nothing
pub data IsUnconfirmed (byte : ℕ) (calls : List Call) : Type 0 where
  unrefused : (answer : Option ℕ) → answer ≢ Some nack → calls ≡ Put byte ∷ Get answer ∷ []
      → IsUnconfirmed byte calls
  answered_on : (x : ℕ) → calls ≡ Put byte ∷ Get (Some nack) ∷ Get (Some x) ∷ []
      → IsUnconfirmed byte calls

-- another byte came in it than is due
pub data IsGarbled (byte : ℕ) (calls : List Call) : Type 0 where
  unacknowledged : IsNoAck calls → IsGarbled byte calls
  answered_once : (connecting last : List Call) → IsConnected connecting → IsAnswerTo byte last
      → calls ≡ connecting ++ last → IsGarbled byte calls
  unconfirmed : (connecting last : List Call) → IsConnected connecting → IsUnconfirmed byte last
      → calls ≡ connecting ++ Put byte ∷ Get None ∷ last → IsGarbled byte calls

-- so a connection fails, or one behind it
abbrev pub IsUnended : ℕ → List Call → Type 0
IsUnended byte calls = Floods calls ⊎ IsGarbled byte calls

-- single bytes at Ok: one of them was refused, or none, and the device was fresh
pub data EndsSingly (byte limit : ℕ) (calls : List Call) : Type 0 where
  refused : (sent : ℕ) (before last : List Call) → sent < limit → AreUnrefused byte sent before
      → IsRefused byte last → calls ≡ before ++ last → EndsSingly byte limit calls
  reconnected : (before last : List Call) → AreUnrefused byte limit before
      → IsReconnected byte last → calls ≡ before ++ last → EndsSingly byte limit calls

-- settling in batches at Ok: what was owed is taken, batches are sent, then single bytes
pub record EndsInBatches (byte limit : ℕ) (calls : List Call) : Type 0 where
  pub seen : Bool
  pub left : ℕ
  pub drained : List Call
  pub batches : List Call
  pub singles : List Call
  pub is : calls ≡ drained ++ batches ++ singles
  pub is_drained : IsDrained seen drained
  pub are_batched : IsBatched byte limit left batches
  pub end_singly : EndsSingly byte left singles

-- settling byte by byte at Ok: there are no batches
pub record EndsByteByByte (byte limit : ℕ) (calls : List Call) : Type 0 where
  pub seen : Bool
  pub drained : List Call
  pub singles : List Call
  pub is : calls ≡ drained ++ singles
  pub is_drained : IsDrained seen drained
  pub end_singly : EndsSingly byte limit singles

-- settling at Ok: with 7F it goes byte by byte, with any other byte in batches
pub data EndsSettled (byte limit : ℕ) (calls : List Call) : Type 0 where
  singly : byte ≡ 0x7F → EndsByteByByte byte limit calls → EndsSettled byte limit calls
  batched : byte ≢ 0x7F → EndsInBatches byte limit calls → EndsSettled byte limit calls

-- settling at Ok by what the stopped host was about to do: under an intent it goes in batches,
-- whatever the byte
abbrev pub EndsUnder : Option Intent → ℕ → List Call → Type 0
EndsUnder None limit calls = EndsSettled 0x7F limit calls
EndsUnder (Some intent) limit calls = EndsInBatches (settling_byte (Some intent)) limit calls

-- Faults:

-- the whole limit was put, and then came calls that have P
pub record IsPast (byte limit : ℕ) (P : List Call → Type 0) (calls : List Call) : Type 0 where
  pub before : List Call
  pub last : List Call
  pub is : calls ≡ before ++ last
  pub puts : puts_of before ≡ replicate limit byte
  pub has : P last

abbrev pub EndsQuiet : ℕ → ℕ → List Call → Type 0
EndsQuiet byte limit calls = IsPast byte limit IsUnanswered calls

abbrev pub EndsGarbled : ℕ → ℕ → List Call → Type 0
EndsGarbled byte limit calls = Floods calls ⊎ IsPast byte limit (IsGarbled byte) calls

-- no calls end so
abbrev pub Never : List Call → Type 0
Never calls = ⊥

-- A fault is never Nack, and where it is Quiet or Garbled the calls end as these say.
pub record FailsAs (quiet garbled : List Call → Type 0) (old new : Option (List Call))
    (fault : WireFault)
    : Type 0 where
  pub named : fault ≢ Nack
  pub quiet_end : fault ≡ Quiet → GoesOn quiet old new
  pub garbled_end : fault ≡ Garbled → GoesOn garbled old new
