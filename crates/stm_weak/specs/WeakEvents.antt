-- A history at a device with weak pages: what befalls it by the events that calls tell, and that
-- it is that of an ordinary device.
use Rattle.std.specs.Prelude.{◌≡◌, ◌⊎◌, ℕ, ◌<◌, Bool, IsTrue, List, [], ◌∷◌, Contains, Option, None}
use Rattle.stm_wire.specs.declared.intent.Intent.{Intent}
use Rattle.stm_wire.specs.Chip.{page_count}
use Rattle.stm_wire.specs.Device.{Device, Connected, IsDevice}
use Rattle.stm_wire.specs.Dialogue.{sent_bytes}
use Rattle.stm_wire.specs.Intents.{intended_pages}
use Rattle.stm_wire.specs.Rig.{RigState}
use Rattle.stm_session.specs.Order.{Adds, Sends}
use Rattle.stm_weak.specs.Weak.{WeakEvent, breaks, does, settles, weak_behind}
use Rattle.stm_weak.specs.Believed.{NoneBelieved}
use Rattle.stm_weak.specs.History.{AllFind, AtOk, WeakDeed, events_in}
use Rattle.stm_weak.specs.WeakDevice.{CanBe, Heals, NoneIsWeak, WeakDevice}
use Rattle.stm_weak.specs.WeakFrames.{BeginsOf}
use Rattle.stm_weak.specs.WeakRuns.{AreFedBytes, Befall, Feed, WeakHappening, HasNoReset, IsUnread, Reset}
use Rattle.stm_weak.specs.WeakRuns.{Take, WeakBefall, fed_bytes}

-- no page becomes weak without a loss of power, and one of which an erase was done isn't weak
abbrev pub NoneBecomesWeak : (happenings : List WeakHappening) (old new : WeakDevice)
    → WeakBefall happenings old new → Type 0
NoneBecomesWeak [] old new led = Unit {0}
NoneBecomesWeak (Feed byte ∷ more) old new led =
    ((n : ℕ) → IsTrue (led.0.weak n) → IsTrue (old.weak n) × (Heals byte old.device n → ⊥))
    × NoneBecomesWeak more led.0 new led.2
NoneBecomesWeak (Take n ∷ more) old new led =
    ((n : ℕ) → IsTrue (led.0.weak n) → IsTrue (old.weak n)) × NoneBecomesWeak more led.0 new led.2
NoneBecomesWeak (Reset ∷ more) old new led = NoneBecomesWeak more led.0 new led.2

-- A beginning of a frame is sent to a device that waits for a command, and what it owes is taken
-- meanwhile. It isn't reset, and keeps its power.
pub record IsFrameBegun (bytes : List ℕ) (old new : WeakDevice) : Type 0 where
  pub waits : old.device.phase ≡ Connected []
  pub happenings : List WeakHappening
  pub begins : BeginsOf (fed_bytes happenings) bytes
  pub no_reset : HasNoReset happenings
  pub are_bytes : AreFedBytes happenings
  pub led : WeakBefall happenings old new
  pub sound : NoneBecomesWeak happenings old new led

-- and all of it
pub record IsSent (bytes : List ℕ) (old new : WeakDevice) : Type 0 where
  pub begun : IsFrameBegun bytes old new
  pub whole : fed_bytes begun.happenings ≡ bytes

-- Before its frames a session settles the device, which may have lost its power or been reset; a
-- call that asks for the board sends its frames in that too. By all of it no byte completes a read
-- of a weak page, and no page becomes weak but those that settling may change.
pub record IsSettledWeakly (intent : Option Intent) (old new : WeakDevice) : Type 0 where
  pub happenings : List WeakHappening
  pub are_bytes : AreFedBytes happenings
  pub led : WeakBefall happenings old new
  pub unread : IsUnread happenings old new led
  pub sound : (n : ℕ) → IsTrue (new.weak n)
      → IsTrue (old.weak n) ⊎ Contains (intended_pages intent) n

-- these events befall it
abbrev pub WeakEvents : List WeakEvent → WeakDevice → WeakDevice → Type 0
WeakEvents [] old new = new ≡ old
WeakEvents (settles own ∷ events) old new =
    (mid : WeakDevice) × IsSettledWeakly own old mid × WeakEvents events mid new
WeakEvents (does (Adds entries) ∷ events) old new = WeakEvents events old new
WeakEvents (does (Sends turns) ∷ events) old new =
    (mid : WeakDevice) × IsSent (sent_bytes turns) old mid × WeakEvents events mid new
WeakEvents (breaks turns ∷ events) old new =
    (mid : WeakDevice) × IsFrameBegun (sent_bytes turns) old mid × WeakEvents events mid new

-- no byte completed a read of a weak page, and what befell it led an ordinary device from d to e
abbrev pub AreAsOrdinary : (events : List WeakEvent) (old new : WeakDevice)
    → WeakEvents events old new → Device → Device → Type 0
AreAsOrdinary [] old new led d e = e ≡ d
AreAsOrdinary (settles own ∷ events) old new led d e =
    (mid : Device) × Befall led.1.happenings d mid × AreAsOrdinary events led.0 new led.2 mid e
AreAsOrdinary (does (Adds entries) ∷ events) old new led d e = AreAsOrdinary events old new led d e
AreAsOrdinary (does (Sends turns) ∷ events) old new led d e =
    IsUnread led.1.begun.happenings old led.0 led.1.begun.led
    × ((mid : Device) × Befall led.1.begun.happenings d mid
    × AreAsOrdinary events led.0 new led.2 mid e)
AreAsOrdinary (breaks turns ∷ events) old new led d e =
    IsUnread led.1.happenings old led.0 led.1.led
    × ((mid : Device) × Befall led.1.happenings d mid
    × AreAsOrdinary events led.0 new led.2 mid e)

-- Where no page is believed that may be weak, and the pages that are weak are among those that may
-- be, these events are those of an ordinary device; and behind them too the pages that are weak are
-- among those that may be.
abbrev pub EventsAreOrdinary : Type 0
EventsAreOrdinary = (events : List WeakEvent) (old new : WeakDevice) (d : Device) (may_be : ℕ → Bool)
    (both : Bool) (intent : Option Intent) → IsDevice d → CanBe old d
    → ((n : ℕ) → n < page_count d.chip → IsTrue (old.weak n) → IsTrue (may_be n))
    → NoneBelieved d.chip both (λ n. IsTrue (may_be n)) intent events
    → (led : WeakEvents events old new)
    → ((e : Device) × AreAsOrdinary events old new led d e × CanBe new e × IsDevice e)
    × ((n : ℕ) → n < page_count d.chip → IsTrue (new.weak n)
    → weak_behind d.chip (λ m. IsTrue (may_be m)) events n)

-- calls, one behind another
abbrev pub WeakDeeds : {R : Type 0} {view : R → RigState} → List (WeakDeed R view) → WeakDevice
    → WeakDevice → Type 0
WeakDeeds [] old new = new ≡ old
WeakDeeds (deed ∷ deeds) old new =
    (mid : WeakDevice) × WeakEvents (events_in deed) old mid × WeakDeeds deeds mid new

-- They led an ordinary device from d to e; and where a run or an undo answered Ok, that device is
-- just what the one with weak pages is, with each byte of its flash.
abbrev pub DeedsAreAsOrdinary : {R : Type 0} {view : R → RigState} → (deeds : List (WeakDeed R view))
    (old new : WeakDevice) → WeakDeeds deeds old new → Device → Device → Type 0
DeedsAreAsOrdinary [] old new led d e = e ≡ d
DeedsAreAsOrdinary (deed ∷ deeds) old new led d e =
    (mid : Device) × AreAsOrdinary (events_in deed) old led.0 led.1 d mid
    × AtOk deed (mid ≡ led.0.device) × DeedsAreAsOrdinary deeds led.0 new led.2 mid e

-- A history that begins with no journal, and no weak page.
abbrev pub HistoriesAreOrdinary : {R : Type 0} → (R → RigState) → Type 0
HistoriesAreOrdinary {R} view = (deeds : List (WeakDeed R view)) (old new : WeakDevice)
    → IsDevice old.device → NoneIsWeak old → AllFind old.device.chip None deeds
    → (led : WeakDeeds deeds old new)
    → (e : Device) × DeedsAreAsOrdinary deeds old new led old.device e × CanBe new e × IsDevice e
