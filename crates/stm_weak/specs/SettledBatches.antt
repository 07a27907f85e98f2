-- What settling in batches leaves, by what a device with weak pages answered.
use Rattle.std.specs.Prelude.{◌≡◌, ◌⊎◌, ℕ, ◌<◌, suc, IsTrue, List, [], ◌∷◌, ◌++◌, replicate}
use Rattle.std.specs.Prelude.{Option, Some, None}
use Rattle.stm_wire.specs.declared.intent.Intent.{Intent}
use Rattle.stm_wire.specs.declared.verdict.Verdict.TheVariants.{Loose}
use Rattle.stm_wire.specs.Call.{Append, Call, Fetch, Get, Put}
use Rattle.stm_wire.specs.Chip.{ChipData}
use Rattle.stm_wire.specs.Device.{Connected, Fresh, Gone, IsSettled, Phase}
use Rattle.stm_wire.specs.Exchange.{verdict}
use Rattle.stm_wire.specs.Intents.{settling_byte}
use Rattle.stm_wire.specs.SettlingCalls.{EndsInBatches}
use Rattle.stm_weak.specs.WeakDevice.{WeakDevice, WeakFeeds}
use Rattle.stm_weak.specs.WeakSettling.{IsSettledAlone}

-- no list by which this byte goes on with what came has a loose verdict
abbrev pub IsTameIn : ChipData → List ℕ → ℕ → Phase → Type 0
IsTameIn chip codes byte Fresh = Unit {0}
IsTameIn chip codes byte (Connected rest) =
    (k : ℕ) → verdict chip codes (rest ++ replicate (suc k) byte) ≡ Some Loose → ⊥
IsTameIn chip codes byte Gone = Unit {0}

-- of a device
abbrev pub IsTameFor : ℕ → WeakDevice → Type 0
IsTameFor byte w = IsTameIn w.device.chip w.device.codes byte w.device.phase

-- It answered these calls, none of which failed. Each byte put is this one, or comes to it fresh.
abbrev pub AnswersAlone : ℕ → List Call → WeakDevice → WeakDevice → Type 0
AnswersAlone byte [] old new = new ≡ old
AnswersAlone byte (Put own ∷ calls) old new =
    (mid : WeakDevice) × ((own ≡ byte) ⊎ (old.device.phase ≡ Fresh)) × WeakFeeds own old mid
    × AnswersAlone byte calls mid new
AnswersAlone byte (Get None ∷ calls) old new =
    (old.device.owed ≡ []) × AnswersAlone byte calls old new
AnswersAlone byte (Get (Some x) ∷ calls) old new =
    (mid : WeakDevice) × (old.device ≡ record mid.device { owed = x ∷ mid.device.owed })
    × AnswersAlone byte calls mid new
AnswersAlone byte (Append bytes ∷ calls) old new = AnswersAlone byte calls old new
AnswersAlone byte (Fetch ∷ calls) old new = AnswersAlone byte calls old new

-- Settling in batches that ends well leaves a device that waits for a command, and owes nothing.
abbrev pub BatchesLeaveItWaiting : Type 0
BatchesLeaveItWaiting = (byte limit : ℕ) (calls : List Call) (old new : WeakDevice)
    → 2 < limit → IsTameFor byte old → EndsInBatches byte limit calls
    → AnswersAlone byte calls old new → IsSettled new.device

-- It was settled so far, and then it answered the calls of a settling in batches that ended well,
-- by which no page became weak.
pub record EndsAnswered (intent : Option Intent) (old new : WeakDevice) : Type 0 where
  pub mid : WeakDevice
  pub first : IsSettledAlone intent old mid
  pub limit : ℕ
  pub some : 2 < limit
  pub calls : List Call
  pub ends : EndsInBatches (settling_byte intent) limit calls
  pub answers : AnswersAlone (settling_byte intent) calls mid new
  pub sound : (n : ℕ) → IsTrue (new.weak n) → IsTrue (mid.weak n)
