-- A greeting: one 7F ahead of the settling bytes.
use Rattle.std.specs.Prelude.{◌≡◌, ℕ, ◌+◌, ◌*◌, ◌<◌, ◌≤◌, max, Bool, true, false, List, Option}
use Rattle.std.specs.Prelude.{Some, None, Contains, length, Result}
use Rattle.stm_wire.specs.declared.chip.EraseKind.{EraseKind}
use Rattle.stm_wire.specs.declared.chip.EraseKind.TheVariants.{Page, Extended}
use Rattle.stm_wire.specs.declared.intent.Intent.{Intent}
use Rattle.stm_wire.specs.declared.intent.Intent.TheVariants.{Erase, Program}
use Rattle.stm_wire.specs.Chip.{page_count}
use Rattle.stm_wire.specs.declared.fault.WireFault.{WireFault}
use Rattle.stm_wire.specs.Device.{Device, Fresh, Connected, IsDevice, IsSettled, Feeds, LosesOwed, reset}
use Rattle.stm_wire.specs.Awaited.{Awaits, most_for, most_under}
use Rattle.stm_wire.specs.Command.{IsOkOrLine}
use Rattle.stm_wire.specs.Harmless.{Harmless, SameOutside}
use Rattle.stm_wire.specs.Intents.{settling_byte, intended_pages}
use Rattle.stm_wire.specs.Moments.{PartlyFed}
use Rattle.stm_wire.specs.Rig.{RigState}
use Rattle.stm_wire.specs.Settling.{Keeps}
use Rattle.stm_wire.specs.Stopped.{IsStopped, IsFrameUnder}

-- How many of the settling byte suffice, where 7F may have come once ahead of them. Behind 44 BB it
-- is the high byte of a count, of 32,513 pages and more, of two bytes each; no 44 was sent but under
-- an intent to erase a page.
abbrev pub most_greeted : EraseKind → Option Intent → ℕ
most_greeted Page intent = 267
most_greeted Extended None = 267
most_greeted Extended (Some (Erase n)) =
    let byte = settling_byte (Some (Erase n)) in max (most_for Extended byte) (2 * byte + 65030)
most_greeted Extended (Some (Program n)) = 267

-- how many suffice behind what a host that stopped under this intent had sent, and 7F once where it
-- may have been sent
abbrev pub most_left : Bool → EraseKind → Option Intent → ℕ
most_left false kind intent = most_under kind intent
most_left true kind intent = most_greeted kind intent

-- The device awaits so many of the intent's byte at most. A host without an intent sends so many that
-- any device refuses one: nothing is asked of it.
abbrev pub AwaitsUnder : Bool → Option Intent → Device → Type 0
AwaitsUnder greeted None d = Unit {0}
AwaitsUnder greeted (Some intent) d =
    Awaits (settling_byte (Some intent)) (most_left greeted d.chip.kind (Some intent)) d

-- harmless, and so many of the byte suffice
pub record HarmlessWithin (most : ℕ) (d : Device) (byte : ℕ) (pages : List ℕ) : Type 0 where
  pub harmless : Harmless d byte pages
  pub awaits : Awaits byte most d

-- what one 7F leaves
pub record IsGreetedSafely (most byte : ℕ) (pages : List ℕ) (old new : Device) : Type 0 where
  pub same_chip : new.chip ≡ old.chip
  pub flash : SameOutside old.chip pages old.flash new.flash
  pub harmless : HarmlessWithin most new byte pages

-- Harmless behind a greeting: it is harmless for the intent's byte, and still is where one 7F comes
-- first.
pub record MayBeGreeted (d : Device) (intent : Option Intent) (pages : List ℕ) : Type 0 where
  pub now : HarmlessWithin (most_greeted d.chip.kind intent) d (settling_byte intent) pages
  pub greeted : (new : Device) → Feeds 0x7F d new
      → IsGreetedSafely (most_greeted d.chip.kind intent) (settling_byte intent) pages d new

-- whatever beginning of a frame a stopped host has left, one 7F may come first
abbrev pub StoppedMayBeGreeted : Type 0
StoppedMayBeGreeted =
    (d : Device) (intent : Option Intent) (rest : List ℕ) → IsDevice d → d.phase ≡ Connected rest
    → IsStopped d intent rest → MayBeGreeted d intent (intended_pages intent)

abbrev pub FreshMayBeGreeted : Type 0
FreshMayBeGreeted = (d : Device) (intent : Option Intent) (pages : List ℕ) → IsDevice d
    → d.phase ≡ Fresh → MayBeGreeted d intent pages

-- it stays so where the device is reset, where owed bytes are lost, and for more pages
abbrev pub ResetMayBeGreeted : Type 0
ResetMayBeGreeted = (d : Device) (intent : Option Intent) (pages : List ℕ) → IsDevice d
    → MayBeGreeted d intent pages → MayBeGreeted (reset d) intent pages

abbrev pub MorePagesMayBeGreeted : Type 0
MorePagesMayBeGreeted = (d : Device) (intent : Option Intent) (fewer more : List ℕ)
    → ((n : ℕ) → n < page_count d.chip → Contains fewer n → Contains more n)
    → MayBeGreeted d intent fewer → MayBeGreeted d intent more

abbrev pub LossMayBeGreeted : Type 0
LossMayBeGreeted = (old new : Device) (intent : Option Intent) (pages : List ℕ)
    → MayBeGreeted old intent pages → LosesOwed old new → MayBeGreeted new intent pages

-- a host that sends a settled device a frame under an intent may be stopped at any byte
abbrev pub SendingMayBeGreeted : Type 0
SendingMayBeGreeted =
    (old d : Device) (intent : Option Intent) (frame : List ℕ) → IsDevice old → IsSettled old
    → IsFrameUnder old.chip intent frame → PartlyFed frame old d
    → MayBeGreeted d intent (intended_pages intent)

-- A device that is greeted, at each moment: the start's chip, version, codes, and flash outside the
-- pages, which the intent's byte settles without harm, and which owes little.
pub record IsGreeting (intent : Option Intent) (pages : List ℕ) (start d : Device) : Type 0 where
  pub safely : IsGreetedSafely (most_greeted start.chip.kind intent) (settling_byte intent) pages
      start d
  pub same_version : d.version ≡ start.version
  pub same_codes : d.codes ≡ start.codes
  pub owed : length d.owed ≤ 4096

-- what a greeting does to a Rig that follows the model
pub record Greets {T : Type 0} (intent : Option Intent) (pages : List ℕ)
    (result : Result T WireFault) (old new : RigState) : Type 0 where
  pub keeps : Keeps (IsGreeting intent pages old.device) old new
  pub fails : IsOkOrLine result
