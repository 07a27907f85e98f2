-- What befalls a device on the line, one thing after another: an ordinary one, and one with weak
-- pages.
use Rattle.std.specs.Prelude.{◌≡◌, ℕ, ◌<◌, IsTrue, List, [], ◌∷◌, drop}
use Rattle.stm_wire.specs.Device.{Device, Feeds, reset}
use Rattle.stm_weak.specs.WeakDevice.{WeakDevice, ReadsWeak, WeakFeeds}

pub data WeakHappening : Type 0 where
  -- this byte is fed to it
  Feed : ℕ → WeakHappening
  -- so many of the bytes that it owes are taken, or lost
  Take : ℕ → WeakHappening
  -- it is reset, or loses its power
  Reset : WeakHappening

-- they may lead an ordinary device from old to new
abbrev pub Befall : List WeakHappening → Device → Device → Type 0
Befall [] old new = new ≡ old
Befall (Feed byte ∷ more) old new = (mid : Device) × Feeds byte old mid × Befall more mid new
Befall (Take n ∷ more) old new = Befall more (record old { owed = drop n old.owed }) new
Befall (Reset ∷ more) old new = Befall more (reset old) new

-- each page that was weak is, and others may be too
abbrev pub StayWeak : WeakDevice → WeakDevice → Type 0
StayWeak old new = (n : ℕ) → IsTrue (old.weak n) → IsTrue (new.weak n)

-- it is this device now
pub record IsNow (d : Device) (old new : WeakDevice) : Type 0 where
  pub device : new.device ≡ d
  pub stays : StayWeak old new

-- and one with weak pages: a loss of power may leave more of them
abbrev pub WeakBefall : List WeakHappening → WeakDevice → WeakDevice → Type 0
WeakBefall [] old new = new ≡ old
WeakBefall (Feed byte ∷ more) old new =
    (mid : WeakDevice) × WeakFeeds byte old mid × WeakBefall more mid new
WeakBefall (Take n ∷ more) old new =
    (mid : WeakDevice) × IsNow (record old.device { owed = drop n old.device.owed }) old mid
    × WeakBefall more mid new
WeakBefall (Reset ∷ more) old new =
    (mid : WeakDevice) × IsNow (reset old.device) old mid × WeakBefall more mid new

-- no byte of it completed a read of a weak page
abbrev pub IsUnread : (happenings : List WeakHappening) (old new : WeakDevice)
    → WeakBefall happenings old new → Type 0
IsUnread [] old new led = Unit {0}
IsUnread (Feed byte ∷ more) old new led =
    (ReadsWeak byte old → ⊥) × IsUnread more led.0 new led.2
IsUnread (Take n ∷ more) old new led = IsUnread more led.0 new led.2
IsUnread (Reset ∷ more) old new led = IsUnread more led.0 new led.2

-- the bytes that are fed are bytes
abbrev pub AreFedBytes : List WeakHappening → Type 0
AreFedBytes [] = Unit {0}
AreFedBytes (Feed byte ∷ more) = (byte < 256) × AreFedBytes more
AreFedBytes (Take n ∷ more) = AreFedBytes more
AreFedBytes (Reset ∷ more) = AreFedBytes more

-- the bytes that are fed, where it isn't reset meanwhile
abbrev pub fed_bytes : List WeakHappening → List ℕ
fed_bytes [] = []
fed_bytes (Feed byte ∷ more) = byte ∷ fed_bytes more
fed_bytes (Take n ∷ more) = fed_bytes more
fed_bytes (Reset ∷ more) = fed_bytes more

abbrev pub HasNoReset : List WeakHappening → Type 0
HasNoReset [] = Unit {0}
HasNoReset (Feed byte ∷ more) = HasNoReset more
HasNoReset (Take n ∷ more) = HasNoReset more
HasNoReset (Reset ∷ more) = ⊥
