-- How a device with weak pages is asked which board it is, by what is fed to it alone.
use Rattle.std.specs.Prelude.{◌≡◌, ℕ, false, IsTrue, List, [], ◌∷◌, Option, Some}
use Rattle.stm_wire.specs.declared.intent.Intent.{Intent}
use Rattle.stm_wire.specs.declared.places.UniquePlace.{UniquePlace}
use Rattle.stm_wire.specs.Chip.{ChipData}
use Rattle.stm_wire.specs.Device.{Connected, Device}
use Rattle.stm_wire.specs.Frames.{command, read_frame}
use Rattle.stm_wire.specs.Refused.{read_head}
use Rattle.stm_wire.specs.Telling.{is_readable}
use Rattle.stm_weak.specs.FedEvents.{IsFedPart}
use Rattle.stm_weak.specs.WeakDevice.{WeakDevice}
use Rattle.stm_weak.specs.WeakRuns.{Befall, IsUnread, fed_bytes}
use Rattle.stm_weak.specs.WeakSettling.{IsSettledAlone}

-- its chip has a place there for the unique id, or for the size of the flash
pub data IsToldAt (chip : ChipData) (address : ℕ) : Type 0 where
  at_unique : (place : UniquePlace) → chip.places.unique ≡ Some place → address ≡ place.address
      → IsToldAt chip address
  at_size : chip.places.size ≡ Some address → IsToldAt chip address

-- A frame that asks which commands a device has, or what it is, or reads where its chip tells its
-- board; or the beginning of a read up to an address that the device refuses.
pub data IsBoardQuestion (chip : ChipData) (frame : List ℕ) : Type 0 where
  which_commands : frame ≡ command 0x00 → IsBoardQuestion chip frame
  which_chip : frame ≡ command 0x02 → IsBoardQuestion chip frame
  which_board : (address size : ℕ) → IsToldAt chip address → IsTrue (is_readable chip address)
      → frame ≡ read_frame address size → IsBoardQuestion chip frame
  up_to_refused : (address : ℕ) → is_readable chip address ≡ false → frame ≡ read_head address
      → IsBoardQuestion chip frame

-- where another question follows, these are all its bytes
abbrev pub WholeIfMore : List (List ℕ) → List ℕ → List ℕ → Type 0
WholeIfMore [] bytes frame = Unit {0}
WholeIfMore (next ∷ frames) bytes frame = bytes ≡ frame

-- such frames, the last of them whole or in part
abbrev pub FedQuestions : List (List ℕ) → WeakDevice → WeakDevice → Type 0
FedQuestions [] old new = new ≡ old
FedQuestions (frame ∷ frames) old new =
    (mid : WeakDevice) × IsBoardQuestion old.device.chip frame × (part : IsFedPart frame old mid)
    × WholeIfMore frames (fed_bytes part.happenings) frame × FedQuestions frames mid new

-- where there is any, the device waits for a command
abbrev pub WaitsForQuestions : List (List ℕ) → WeakDevice → Type 0
WaitsForQuestions [] w = Unit {0}
WaitsForQuestions (frame ∷ frames) w = w.device.phase ≡ Connected []

-- The device is settled, whole or in part, and then asked. Where it is asked, and no byte of the
-- settling completed a read of a weak page, it waits for a command, as settling promises at Ok of a
-- device that follows the model.
pub record IsAskedAlone (intent : Option Intent) (old new : WeakDevice) : Type 0 where
  pub settled : WeakDevice
  pub settling : IsSettledAlone intent old settled
  pub frames : List (List ℕ)
  pub waits : IsUnread settling.happenings old settled settling.led
      → WaitsForQuestions frames settled
  pub questions : FedQuestions frames settled new

-- No byte of questions completed a read of a weak page, and they led an ordinary device from d to
-- e.
abbrev pub AreQuestionsAsOrdinary : (frames : List (List ℕ)) (old new : WeakDevice)
    → FedQuestions frames old new → Device → Device → Type 0
AreQuestionsAsOrdinary [] old new led d e = e ≡ d
AreQuestionsAsOrdinary (frame ∷ frames) old new led d e =
    IsUnread led.2.happenings old led.0 led.2.led
    × ((mid : Device) × Befall led.2.happenings d mid
    × AreQuestionsAsOrdinary frames led.0 new led.4 mid e)

-- and so did the settling before them
abbrev pub IsAskedAsOrdinary : (intent : Option Intent) (old new : WeakDevice)
    → IsAskedAlone intent old new → Device → Device → Type 0
IsAskedAsOrdinary intent old new asked d e =
    IsUnread asked.settling.happenings old asked.settled asked.settling.led
    × ((mid : Device) × Befall asked.settling.happenings d mid
    × AreQuestionsAsOrdinary asked.frames asked.settled new asked.questions mid e)
