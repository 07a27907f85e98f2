-- A session at a device with weak pages, by what is fed to it alone. Nothing is asked of the device
-- but what settling it under an intent leaves.
use Rattle.std.specs.Prelude.{◌≡◌, ◌⊎◌, ℕ, ◌<◌, Bool, IsTrue, List, [], ◌∷◌, Option, Some, None}
use Rattle.stm_wire.specs.declared.intent.Intent.{Intent}
use Rattle.stm_wire.specs.Chip.{page_count}
use Rattle.stm_wire.specs.Device.{Connected, Device, IsDevice}
use Rattle.stm_wire.specs.Dialogue.{Turn, sent_bytes}
use Rattle.stm_wire.specs.Refused.{IsRefusedRead}
use Rattle.stm_session.specs.Order.{Adds, Sends}
use Rattle.stm_weak.specs.Weak.{WeakEvent, breaks, does, settles}
use Rattle.stm_weak.specs.Believed.{MayPutBelieving}
use Rattle.stm_weak.specs.SettledBatches.{EndsAnswered, IsTameFor}
use Rattle.stm_weak.specs.WeakDevice.{CanBe, WeakDevice}
use Rattle.stm_weak.specs.WeakEvents.{NoneBecomesWeak}
use Rattle.stm_weak.specs.WeakFrames.{BeginsOf}
use Rattle.stm_weak.specs.WeakRuns.{AreFedBytes, Befall, HasNoReset, IsUnread, WeakBefall}
use Rattle.stm_weak.specs.WeakRuns.{WeakHappening, fed_bytes}
use Rattle.stm_weak.specs.WeakSettling.{IsFedAlone, IsSettledAlone}

-- A beginning of these bytes is fed to it, whatever it has, and what it owes is taken meanwhile. It
-- isn't reset, and keeps its power.
pub record IsFedPart (bytes : List ℕ) (old new : WeakDevice) : Type 0 where
  pub happenings : List WeakHappening
  pub begins : BeginsOf (fed_bytes happenings) bytes
  pub no_reset : HasNoReset happenings
  pub are_bytes : AreFedBytes happenings
  pub led : WeakBefall happenings old new
  pub sound : NoneBecomesWeak happenings old new led

-- the dialogue of a read that the device refuses
pub record IsRefusedDialogue (turns : List Turn) : Type 0 where
  pub address : ℕ
  pub size : ℕ
  pub frame : List ℕ
  pub refused : IsRefusedRead address size frame turns

-- and all of them
pub record IsFedWhole (turns : List Turn) (old new : WeakDevice) : Type 0 where
  pub part : IsFedPart (sent_bytes turns) old new
  pub whole : fed_bytes part.happenings ≡ sent_bytes turns

-- where anything follows, it waits for a command
abbrev pub WaitsForMore : List WeakEvent → WeakDevice → Type 0
WaitsForMore [] w = Unit {0}
WaitsForMore (event ∷ events) w = w.device.phase ≡ Connected []

-- so does a device that was settled under an intent; of one without nothing is asked
abbrev pub WaitsIfIntended : Option Intent → List WeakEvent → WeakDevice → Type 0
WaitsIfIntended None events w = Unit {0}
WaitsIfIntended (Some intent) events w = WaitsForMore events w

-- These events befall it. Where anything follows a settling under an intent, the device answered
-- the calls of one in batches that ended well. Or it waits for a command, if no byte completed a
-- read of a weak page, as `settle_under` promises at Ok of a device that follows the model. Behind a
-- frame that was broken off, or a read that was refused, nothing comes in a session.
abbrev pub FedEvents : List WeakEvent → WeakDevice → WeakDevice → Type 0
FedEvents [] old new = new ≡ old
FedEvents (settles own ∷ events) old new =
    (mid : WeakDevice) × (settled : IsSettledAlone own old mid)
    × ((IsUnread settled.happenings old mid settled.led → WaitsIfIntended own events mid)
    ⊎ EndsAnswered own old mid)
    × FedEvents events mid new
FedEvents (does (Adds entries) ∷ events) old new = FedEvents events old new
FedEvents (does (Sends turns) ∷ events) old new =
    (mid : WeakDevice) × IsFedWhole turns old mid
    × (IsRefusedDialogue turns → WaitsForMore events mid) × FedEvents events mid new
FedEvents (breaks turns ∷ events) old new =
    (mid : WeakDevice) × IsFedPart (sent_bytes turns) old mid × WaitsForMore events mid
    × FedEvents events mid new

-- No byte completed a read of a weak page, and what befell it led an ordinary device from d to e.
abbrev pub AreFedAsOrdinary : (events : List WeakEvent) (old new : WeakDevice)
    → FedEvents events old new → Device → Device → Type 0
AreFedAsOrdinary [] old new led d e = e ≡ d
AreFedAsOrdinary (settles own ∷ events) old new led d e =
    IsUnread led.1.happenings old led.0 led.1.led
    × ((mid : Device) × Befall led.1.happenings d mid
    × AreFedAsOrdinary events led.0 new led.3 mid e)
AreFedAsOrdinary (does (Adds entries) ∷ events) old new led d e =
    AreFedAsOrdinary events old new led d e
AreFedAsOrdinary (does (Sends turns) ∷ events) old new led d e =
    IsUnread led.1.part.happenings old led.0 led.1.part.led
    × ((mid : Device) × Befall led.1.part.happenings d mid
    × AreFedAsOrdinary events led.0 new led.3 mid e)
AreFedAsOrdinary (breaks turns ∷ events) old new led d e =
    IsUnread led.1.happenings old led.0 led.1.led
    × ((mid : Device) × Befall led.1.happenings d mid
    × AreFedAsOrdinary events led.0 new led.3 mid e)

-- A device was stopped in a frame that may be sent while pages may be weak. Settled by one byte,
-- whichever, it completes no read of a weak page.
abbrev pub StoppedSettlingIsUnread : Type 0
StoppedSettlingIsUnread = (old mid new : WeakDevice) (d : Device) (may_be : ℕ → Bool)
    (intent : Option Intent) (turns : List Turn) (byte : ℕ) (pages : List ℕ)
    (happenings : List WeakHappening) → byte < 256 → IsDevice d → CanBe old d
    → old.device.phase ≡ Connected []
    → ((n : ℕ) → n < page_count d.chip → IsTrue (old.weak n) → IsTrue (may_be n))
    → MayPutBelieving d.chip (λ n. IsTrue (may_be n)) intent turns
    → IsFedPart (sent_bytes turns) old mid
    → (led : WeakBefall happenings mid new) → IsFedAlone byte pages happenings mid new led
    → IsUnread happenings mid new led

-- A device that was stopped in a frame which may be sent while some page may be weak: no list by
-- which a byte goes on with what it has is loose.
abbrev pub StoppedIsTame : Type 0
StoppedIsTame = (old mid : WeakDevice) (d : Device) (may_be : ℕ → Bool) (intent : Option Intent)
    (turns : List Turn) (byte n : ℕ) → byte < 256 → IsDevice d → CanBe old d
    → old.device.phase ≡ Connected [] → IsTrue (may_be n)
    → MayPutBelieving d.chip (λ m. IsTrue (may_be m)) intent turns
    → IsFedPart (sent_bytes turns) old mid → IsTameFor byte mid
