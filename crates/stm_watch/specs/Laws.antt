-- Laws of what is known of a watched device.
use Rattle.std.specs.Prelude.{◌≡◌, ℕ, ◌<◌, true, List, [], ◌∷◌, length, All, IsTrue}
use Rattle.stm_watch.specs.declared.sight.Sight.TheVariants.{Lost}
use Rattle.stm_wire.specs.Chip.{ChipData, IsChip}
use Rattle.stm_wire.specs.Exchange.{is_listed}
use Rattle.stm_wire.specs.Device.{Device, Feeds, IsDevice, IsSettled, ListsKind}
use Rattle.stm_watch.specs.Known.{Known, IsWhole, fed, heard, is_due, known_at_first}
use Rattle.stm_watch.specs.Seen.{IsSeen}

-- a settled device is as what is known at first says
abbrev pub SettledIsSeen : Type 0
SettledIsSeen =
    (d : Device) → IsDevice d → IsSettled d → IsSeen (known_at_first d.chip d.version d.codes) d

-- it stays so, whichever device of the model a byte leaves of it
abbrev pub FedIsSeen : Type 0
FedIsSeen =
    (byte : ℕ) (k : Known) (old new : Device) → IsSeen k old → Feeds byte old new
    → IsSeen (fed byte k) new

-- and what it sends is due
abbrev pub SentIsDue : Type 0
SentIsDue =
    (byte : ℕ) (k : Known) (old new : Device) → IsWhole k → IsSeen k old
    → old ≡ record new { owed = byte ∷ new.owed }
    → (is_due byte k ≡ true) × IsSeen (heard byte k) new

-- A byte that was sent, or that came.
pub data LineEvent : Type 0 where
  Sent : ℕ → LineEvent
  Came : ℕ → LineEvent

-- each byte that came was due
abbrev pub AreDue : List LineEvent → Known → Known → Type 0
AreDue [] old new = new ≡ old
AreDue (Sent byte ∷ events) old new = AreDue events (fed byte old) new
AreDue (Came byte ∷ events) old new = (is_due byte old ≡ true) × AreDue events (heard byte old) new

-- the device gets these bytes, and sends these, in this order
abbrev pub Exchanges : List LineEvent → Device → Device → Type 0
Exchanges [] old new = new ≡ old
Exchanges (Sent byte ∷ events) old new =
    (mid : Device) × Feeds byte old mid × Exchanges events mid new
Exchanges (Came byte ∷ events) old new =
    (mid : Device) × (old ≡ record mid { owed = byte ∷ mid.owed }) × Exchanges events mid new

-- what the version and the codes of a device of this chip are like
pub record IsListing (chip : ChipData) (version : ℕ) (codes : List ℕ) : Type 0 where
  pub byte : version < 256
  pub bytes : All (λ code. code < 256) codes
  pub count : length codes < 256
  pub get : IsTrue (is_listed codes 0x00)
  pub get_id : IsTrue (is_listed codes 0x02)
  pub read : IsTrue (is_listed codes 0x11)
  pub write : IsTrue (is_listed codes 0x31)
  pub erase : ListsKind chip.kind codes
  pub no_connect : IsTrue (is_listed codes 0x7F) → ⊥

-- A device of the model, of this chip, settled, with these codes, whose exchange these bytes are.
pub record IsHeardOf (c : ChipData) (v : ℕ) (listed : List ℕ) (events : List LineEvent) : Type 0 where
  pub first : Device
  pub last : Device
  pub chip : first.chip ≡ c
  pub version : first.version ≡ v
  pub codes : first.codes ≡ listed
  pub settled : IsSettled first
  pub device : IsDevice first
  pub exchange : Exchanges events first last

abbrev pub AreEventBytes : List LineEvent → Type 0
AreEventBytes [] = Unit {0}
AreEventBytes (Sent byte ∷ events) = (byte < 256) × AreEventBytes events
AreEventBytes (Came byte ∷ events) = (byte < 256) × AreEventBytes events

-- Whatever the line: bytes of which each that came was due, up to where something is still known,
-- are an exchange of a device of the model.
abbrev pub WatchedIsHeardOf : Type 0
WatchedIsHeardOf =
    (chip : ChipData) (version : ℕ) (codes : List ℕ) (events : List LineEvent) (last : Known)
    → IsChip chip → IsListing chip version codes → AreEventBytes events
    → AreDue events (known_at_first chip version codes) last
    → (last.sight ≡ Lost → ⊥) → IsHeardOf chip version codes events
