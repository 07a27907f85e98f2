-- A device on the line, and what a byte does to it.
use Rattle.std.specs.Prelude.{◌≡◌, ℕ, ◌<◌, ◌≤◌, Bool, false, ◌||◌, ◌==◌, if◌then◌else◌, List}
use Rattle.std.specs.Prelude.{[], ◌∷◌, ◌++◌, length, drop, All, Option, Some, None, IsTrue}
use Rattle.stm_wire.specs.declared.chip.EraseKind.{EraseKind}
use Rattle.stm_wire.specs.declared.chip.EraseKind.TheVariants.{Page, Extended}
use Rattle.stm_wire.specs.Chip.{ChipData, IsChip, flash_size}
use Rattle.stm_wire.specs.declared.verdict.Verdict.{Verdict}
use Rattle.stm_wire.specs.declared.verdict.Verdict.TheVariants.{Done, Refused, Loose}
use Rattle.stm_wire.specs.Exchange.{IsOpen, verdict, is_listed}
use Rattle.stm_wire.specs.Effect.{Effect, change_of}
use Rattle.stm_wire.specs.Reply.{ack, reply}

-- where a device stands in its exchange
pub data Phase : Type 0 where
  -- waits for 7F
  Fresh : Phase
  -- connected, with the bytes that came since the last verdict
  Connected : List ℕ → Phase
  -- left the bootloader
  Gone : Phase

-- a device as the model has it: who it is, what its flash holds, and where its exchange stands
pub record Device : Type 0 where
  pub chip : ChipData
  pub version : ℕ
  -- the commands that it supports
  pub codes : List ℕ
  pub flash : List ℕ
  -- reply bytes that nobody has taken yet
  pub owed : List ℕ
  pub phase : Phase

-- fresh, with the same flash, owing nothing
abbrev pub reset : Device → Device
reset d = record d { owed = []; phase = Fresh }

-- the codes of the protections, whose reply is promised and nothing else
abbrev pub is_protection : List ℕ → Bool
is_protection (code ∷ rest) = code == 0x73 || (code == 0x82 || code == 0x92)
is_protection [] = false

-- where a done list leaves the device
abbrev pub phase_after : List ℕ → Phase
phase_after (code ∷ rest) = if code == 0x21 then Gone else Connected []
phase_after [] = Connected []

-- what the last byte of this list adds to the bytes that the device owes
abbrev pub reply_of : Device → List ℕ → List ℕ
reply_of d bytes = reply d.chip d.version d.codes d.flash bytes

-- a rest is open
abbrev pub IsOpenPhase : ChipData → List ℕ → Phase → Type 0
IsOpenPhase chip codes Fresh = Unit {0}
IsOpenPhase chip codes (Connected rest) = IsOpen chip codes rest × All (λ byte. byte < 256) rest
IsOpenPhase chip codes Gone = Unit {0}

-- anything may have become of it but its chip, its version and its codes
pub record IsLoose (old : Device) (bytes : List ℕ) (new : Device) : Type 0 where
  pub chip : new.chip ≡ old.chip
  pub version : new.version ≡ old.version
  pub codes : new.codes ≡ old.codes
  pub same_length : length new.flash ≡ length old.flash
  pub flash : All (λ byte. byte < 256) new.flash
  pub phase : IsOpenPhase old.chip old.codes new.phase
  pub owed : IsTrue (is_protection bytes) → new.owed ≡ old.owed ++ reply_of old bytes

-- a connected device has all of a list, with this verdict
abbrev pub Takes : Device → List ℕ → Option Verdict → Device → Type 0
Takes old bytes None new =
    new ≡ record old { owed = old.owed ++ reply_of old bytes; phase = Connected bytes }
Takes old bytes (Some Refused) new =
    new ≡ record old { owed = old.owed ++ reply_of old bytes; phase = Connected [] }
Takes old bytes (Some Done) new =
    (flash : List ℕ) × Effect old.chip (change_of bytes) old.flash flash
    × (new
    ≡ record old {
      flash = flash;
      owed = old.owed ++ reply_of old bytes;
      phase = phase_after bytes;
    })
Takes old bytes (Some Loose) new = IsLoose old bytes new

-- the byte, fed to old in this phase, may leave new
abbrev pub Receives : Device → Phase → ℕ → Device → Type 0
Receives old Fresh byte new =
    new ≡ (if byte == 0x7F then record old { owed = old.owed ++ ack ∷ []; phase = Connected [] }
    else old)
Receives old (Connected rest) byte new =
    Takes old (rest ++ byte ∷ []) (verdict old.chip old.codes (rest ++ byte ∷ [])) new
Receives old Gone byte new = new ≡ old

-- the byte, fed to old, may leave new
pub record Feeds (byte : ℕ) (old new : Device) : Type 0 where
  pub receives : Receives old old.phase byte new

-- the bytes, fed one after another
abbrev pub Fed : List ℕ → Device → Device → Type 0
Fed [] old new = new ≡ old
Fed (byte ∷ bytes) old new = (mid : Device) × Feeds byte old mid × Fed bytes mid new

-- the same device, with some of the owed bytes lost or taken from the front
abbrev pub LosesOwed : Device → Device → Type 0
LosesOwed old new = (n : ℕ) × (new ≡ record old { owed = drop n old.owed })

-- of the two erase commands, the codes have the one of this kind, and not the other
abbrev pub ListsKind : EraseKind → List ℕ → Type 0
ListsKind Page codes = IsTrue (is_listed codes 0x43) × (IsTrue (is_listed codes 0x44) → ⊥)
ListsKind Extended codes = IsTrue (is_listed codes 0x44) × (IsTrue (is_listed codes 0x43) → ⊥)

-- a device of this model
pub record IsDevice (d : Device) : Type 0 where
  pub chip : IsChip d.chip
  pub version : d.version < 256
  pub codes : All (λ code. code < 256) d.codes
  pub count : length d.codes < 256
  pub get : IsTrue (is_listed d.codes 0x00)
  pub get_id : IsTrue (is_listed d.codes 0x02)
  pub read : IsTrue (is_listed d.codes 0x11)
  pub write : IsTrue (is_listed d.codes 0x31)
  pub erase : ListsKind d.chip.kind d.codes
  pub no_connect : IsTrue (is_listed d.codes 0x7F) → ⊥
  pub size : length d.flash ≡ flash_size d.chip
  pub flash : All (λ byte. byte < 256) d.flash
  pub phase : IsOpenPhase d.chip d.codes d.phase

-- connected, with an empty rest, owing nothing
pub record IsSettled (d : Device) : Type 0 where
  pub phase : d.phase ≡ Connected []
  pub owed : d.owed ≡ []

-- at most one byte, and no code whose pair 7F would complete
abbrev pub IsReadyRest : List ℕ → List ℕ → Type 0
IsReadyRest codes [] = Unit {0}
IsReadyRest codes (byte ∷ []) = IsTrue (is_listed codes 0x80) → byte ≡ 0x80 → ⊥
IsReadyRest codes (first ∷ second ∷ rest) = ⊥

abbrev pub IsReadyPhase : List ℕ → Phase → Type 0
IsReadyPhase codes Fresh = Unit {0}
IsReadyPhase codes (Connected rest) = IsReadyRest codes rest
IsReadyPhase codes Gone = ⊥

pub record IsReady (d : Device) : Type 0 where
  pub phase : IsReadyPhase d.codes d.phase
  pub owed : length d.owed ≤ 4096
