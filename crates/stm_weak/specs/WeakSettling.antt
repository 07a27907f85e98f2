-- How a device with weak pages is settled: by one byte, again and again, whatever it has.
use Rattle.std.specs.Prelude.{◌≡◌, ◌⊎◌, ℕ, IsTrue, List, [], ◌∷◌, Contains, Option}
use Rattle.stm_wire.specs.declared.intent.Intent.{Intent}
use Rattle.stm_wire.specs.Device.{Fresh}
use Rattle.stm_wire.specs.Intents.{intended_pages, settling_byte}
use Rattle.stm_weak.specs.WeakDevice.{WeakDevice}
use Rattle.stm_weak.specs.WeakRuns.{AreFedBytes, Feed, Reset, Take, WeakBefall, WeakHappening}

-- Each byte that is fed is this one, or comes to a device that is fresh. No page becomes weak
-- without a loss of power, nor by one but those at risk.
abbrev pub IsFedAlone : (byte : ℕ) (pages : List ℕ) (happenings : List WeakHappening)
    (old new : WeakDevice) → WeakBefall happenings old new → Type 0
IsFedAlone byte pages [] old new led = Unit {0}
IsFedAlone byte pages (Feed own ∷ more) old new led =
    ((own ≡ byte) ⊎ (old.device.phase ≡ Fresh))
    × ((n : ℕ) → IsTrue (led.0.weak n) → IsTrue (old.weak n))
    × IsFedAlone byte pages more led.0 new led.2
IsFedAlone byte pages (Take n ∷ more) old new led =
    ((m : ℕ) → IsTrue (led.0.weak m) → IsTrue (old.weak m))
    × IsFedAlone byte pages more led.0 new led.2
IsFedAlone byte pages (Reset ∷ more) old new led =
    ((n : ℕ) → IsTrue (led.0.weak n) → IsTrue (old.weak n) ⊎ Contains pages n)
    × IsFedAlone byte pages more led.0 new led.2

-- It is settled under an intent, whole or in part: it may be reset or lose its power before that
-- and in it, which makes no page weak but those that the settling may change.
pub record IsSettledAlone (intent : Option Intent) (old new : WeakDevice) : Type 0 where
  pub happenings : List WeakHappening
  pub are_bytes : AreFedBytes happenings
  pub led : WeakBefall happenings old new
  pub alone : IsFedAlone (settling_byte intent) (intended_pages intent) happenings old new led
