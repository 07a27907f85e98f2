-- A device with weak pages does what an ordinary device does, as long as none of them is read.
use Rattle.std.specs.Prelude.{◌≡◌, ℕ, ◌<◌, List}
use Rattle.stm_wire.specs.Device.{Device, Feeds, IsDevice}
use Rattle.stm_weak.specs.WeakDevice.{WeakDevice, CanBe, NoneIsWeak, ReadsWeak, WeakFeeds}
use Rattle.stm_weak.specs.WeakRuns.{WeakHappening, AreFedBytes, Befall, IsUnread, WeakBefall}

-- a byte leads each ordinary device that it can be taken for to one that it can be taken for then
abbrev pub FedAsOrdinary : Type 0
FedAsOrdinary = (byte : ℕ) (old new : WeakDevice) (d : Device) → byte < 256 → IsDevice d
    → CanBe old d → WeakFeeds byte old new → (ReadsWeak byte old → ⊥)
    → (e : Device) × Feeds byte d e × CanBe new e × IsDevice e

-- and so does all that befalls it
abbrev pub LedAsOrdinary : Type 0
LedAsOrdinary = (happenings : List WeakHappening) (old new : WeakDevice) (d : Device)
    → AreFedBytes happenings → IsDevice d → CanBe old d → (led : WeakBefall happenings old new)
    → IsUnread happenings old new led
    → (e : Device) × Befall happenings d e × CanBe new e × IsDevice e

-- where no page is weak it can be taken for one device alone, with each byte of its flash
abbrev pub OneIsLeft : Type 0
OneIsLeft = (w : WeakDevice) (d : Device) → NoneIsWeak w → CanBe w d → d ≡ w.device

-- and then it is an ordinary device: a byte does to it what it does to that
abbrev pub SoundIsOrdinary : Type 0
SoundIsOrdinary = (byte : ℕ) (old new : WeakDevice) → NoneIsWeak old → WeakFeeds byte old new
    → Feeds byte old.device new.device
