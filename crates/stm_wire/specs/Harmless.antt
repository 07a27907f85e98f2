-- What a stopped host may have left, and what settling bytes can make of it.
use Rattle.std.specs.Prelude.{◌≡◌, ℕ, ◌<◌, List, [], ◌∷◌, length, Contains}
use Rattle.stm_wire.specs.Chip.{ChipData, page_count, page_of}
use Rattle.stm_wire.specs.Device.{Device, Phase, Fresh, Connected, Gone, Feeds, reset}

-- the two flashes agree in each page that isn't among these
pub record SameOutside (chip : ChipData) (pages : List ℕ) (old new : List ℕ) : Type 0 where
  pub same_length : length new ≡ length old
  pub elsewhere : (n : ℕ) → n < page_count chip → (Contains pages n → ⊥)
      → page_of chip new n ≡ page_of chip old n

-- fresh or connected
abbrev pub IsListening : Phase → Type 0
IsListening Fresh = Unit {0}
IsListening (Connected rest) = Unit {0}
IsListening Gone = ⊥

-- what may happen to a device while it is settled: the byte is fed to it, or it is reset
pub data Disturbance : Type 0 where
  Feed : Disturbance
  Reset : Disturbance

-- these events, each the byte fed or a reset, may lead from old to new
abbrev pub Reaches : ℕ → List Disturbance → Device → Device → Type 0
Reaches byte [] old new = new ≡ old
Reaches byte (Feed ∷ events) old new =
    (mid : Device) × Feeds byte old mid × Reaches byte events mid new
Reaches byte (Reset ∷ events) old new = Reaches byte events (reset old) new

-- fresh or connected, and the flash is the same outside these pages
pub record IsUnharmed (old : Device) (pages : List ℕ) (new : Device) : Type 0 where
  pub phase : IsListening new.phase
  pub flash : SameOutside old.chip pages old.flash new.flash

-- however often the byte is fed and the device is reset, it stays so
pub record Harmless (d : Device) (byte : ℕ) (pages : List ℕ) : Type 0 where
  pub each : (events : List Disturbance) (new : Device) → Reaches byte events d new
      → IsUnharmed d pages new
