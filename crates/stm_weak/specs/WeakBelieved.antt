-- The frames that may be sent while pages may be weak complete no read of one that is.
use Rattle.std.specs.Prelude.{◌≡◌, ℕ, ◌<◌, Bool, IsTrue, List, [], ◌∷◌, Option}
use Rattle.stm_wire.specs.declared.intent.Intent.{Intent}
use Rattle.stm_wire.specs.Chip.{page_count}
use Rattle.stm_wire.specs.Device.{Device, Connected, IsDevice}
use Rattle.stm_wire.specs.Dialogue.{Turn, sent_bytes}
use Rattle.stm_weak.specs.Believed.{MayPutBelieving}
use Rattle.stm_weak.specs.WeakDevice.{CanBe, WeakDevice}
use Rattle.stm_weak.specs.WeakFrames.{BeginsOf}
use Rattle.stm_weak.specs.WeakRuns.{Feed, WeakHappening, HasNoReset, IsUnread, Reset, Take}
use Rattle.stm_weak.specs.WeakRuns.{WeakBefall, fed_bytes}

-- as each byte comes, each page that is weak is one of these, which may be
abbrev pub AreAmong : (ℕ → Type 0) → (happenings : List WeakHappening) (old new : WeakDevice)
    → WeakBefall happenings old new → Type 0
AreAmong MayBe [] old new led = Unit {0}
AreAmong MayBe (Feed byte ∷ more) old new led =
    ((n : ℕ) → n < page_count old.device.chip → IsTrue (old.weak n) → MayBe n)
    × AreAmong MayBe more led.0 new led.2
AreAmong MayBe (Take n ∷ more) old new led = AreAmong MayBe more led.0 new led.2
AreAmong MayBe (Reset ∷ more) old new led = AreAmong MayBe more led.0 new led.2

-- A device with weak pages waits for a command; and a frame is sent that may be while these pages
-- may be weak. No byte of it completes a read of one that is, wherever the host stops in it.
abbrev pub MayPutIsUnread : Type 0
MayPutIsUnread = (happenings : List WeakHappening) (old new : WeakDevice) (d : Device)
    (may_be : ℕ → Bool) (intent : Option Intent) (turns : List Turn) → IsDevice d → CanBe old d
    → d.phase ≡ Connected [] → MayPutBelieving d.chip (λ n. IsTrue (may_be n)) intent turns
    → BeginsOf (fed_bytes happenings) (sent_bytes turns) → HasNoReset happenings
    → (led : WeakBefall happenings old new)
    → AreAmong (λ n. IsTrue (may_be n)) happenings old new led
    → IsUnread happenings old new led
