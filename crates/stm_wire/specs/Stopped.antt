-- What a stopped host may have left in a device's rest, by what it was about to do; and that its
-- settling byte then does no harm outside the page of that intent.
use Rattle.std.specs.Prelude.{◌≡◌, ℕ, ◌<◌, ◌≤◌, List, [], length, take}
use Rattle.std.specs.Prelude.{Contains, Option, Some, None, IsTrue}
use Rattle.stm_wire.specs.declared.intent.Intent.{Intent}
use Rattle.stm_wire.specs.declared.intent.Intent.TheVariants.{Erase, Program}
use Rattle.stm_wire.specs.Chip.{ChipData, page_count, flash_size, fits_inside}
use Rattle.stm_wire.specs.Telling.{can_read}
use Rattle.stm_wire.specs.Device.{Device, Fresh, Connected, IsDevice, IsReadyRest}
use Rattle.stm_wire.specs.Device.{IsSettled, Feeds, LosesOwed, reset}
use Rattle.stm_wire.specs.Awaited.{Awaits, most_under}
use Rattle.stm_wire.specs.Harmless.{Harmless, SameOutside}
use Rattle.stm_wire.specs.Frames.{command, read_frame, write_frame, erase_frame}
use Rattle.stm_wire.specs.Intents.{settling_byte, intended_pages, InPage}
use Rattle.stm_wire.specs.Moments.{PartlyFed}

-- the rest is a beginning of a frame that the host may have been sending under this intent
pub data IsStopped (d : Device) (intent : Option Intent) (rest : List ℕ) : Type 0 where
  in_get : (n : ℕ) → rest ≡ take n (command 0x00) → IsStopped d intent rest
  in_get_id : (n : ℕ) → rest ≡ take n (command 0x02) → IsStopped d intent rest
  in_read : (address size n : ℕ) → rest ≡ take n (read_frame address size) → IsStopped d intent rest
  in_ready : intent ≡ None → IsReadyRest d.codes rest → IsStopped d intent rest
  in_erase : (page n : ℕ) → page < page_count d.chip → intent ≡ Some (Erase page)
      → rest ≡ take n (erase_frame d.chip.kind page) → IsStopped d intent rest
  in_write : (page address n : ℕ) (sent : List ℕ) → intent ≡ Some (Program page) → 1 ≤ length sent
      → InPage d.chip page address (length sent) → rest ≡ take n (write_frame address sent)
      → IsStopped d intent rest

abbrev pub StoppedIsHarmless : Type 0
StoppedIsHarmless =
    (d : Device) (intent : Option Intent) (rest : List ℕ) → IsDevice d → d.phase ≡ Connected rest
    → IsStopped d intent rest → Harmless d (settling_byte intent) (intended_pages intent)

-- and so many of its byte suffice
abbrev pub StoppedAwaitsFew : Type 0
StoppedAwaitsFew =
    (d : Device) (intent : Option Intent) (rest : List ℕ) → IsDevice d → d.phase ≡ Connected rest
    → IsStopped d intent rest → Awaits (settling_byte intent) (most_under d.chip.kind intent) d

abbrev pub FreshIsHarmless : Type 0
FreshIsHarmless =
    (d : Device) (byte : ℕ) (pages : List ℕ) → IsDevice d → d.phase ≡ Fresh → Harmless d byte pages

-- a frame that asks and changes nothing
pub data IsQuestion (chip : ChipData) (frame : List ℕ) : Type 0 where
  get : frame ≡ command 0x00 → IsQuestion chip frame
  get_id : frame ≡ command 0x02 → IsQuestion chip frame
  read : (address size : ℕ) → 1 ≤ size → size ≤ 256 → IsTrue (can_read chip address size)
      → frame ≡ read_frame address size → IsQuestion chip frame

-- a frame that may be sent under this intent
pub data IsFrameUnder (chip : ChipData) (intent : Option Intent) (frame : List ℕ) : Type 0 where
  asks : IsQuestion chip frame → IsFrameUnder chip intent frame
  erases : (page : ℕ) → intent ≡ Some (Erase page) → page < page_count chip
      → frame ≡ erase_frame chip.kind page → IsFrameUnder chip intent frame
  writes : (page address : ℕ) (sent : List ℕ) → intent ≡ Some (Program page) → 1 ≤ length sent
      → length sent ≤ 256
      → InPage chip page address (length sent) → frame ≡ write_frame address sent
      → IsFrameUnder chip intent frame

-- what a stop within a frame leaves of a settled device, and how many of the byte suffice
pub record IsStoppedSafely (old : Device) (byte most : ℕ) (pages : List ℕ)
    (d : Device) : Type 0 where
  pub same_chip : d.chip ≡ old.chip
  pub same_version : d.version ≡ old.version
  pub same_codes : d.codes ≡ old.codes
  pub harmless : Harmless d byte pages
  pub awaits : Awaits byte most d
  pub flash : SameOutside old.chip pages old.flash d.flash
  pub owed : length d.owed ≤ 4096

-- a host that sends a frame under an intent may be stopped at any byte
abbrev pub SendingIsHarmless : Type 0
SendingIsHarmless =
    (old d : Device) (intent : Option Intent) (frame : List ℕ) → IsDevice old → IsSettled old
    → IsFrameUnder old.chip intent frame → PartlyFed frame old d
    → IsStoppedSafely old (settling_byte intent) (most_under old.chip.kind intent)
    (intended_pages intent) d

-- and where it only asks, nothing has changed, and no byte can change anything
abbrev pub AskingChangesNothing : Type 0
AskingChangesNothing = (old d : Device) (byte : ℕ) (frame : List ℕ) → IsDevice old → IsSettled old
    → IsQuestion old.chip frame → PartlyFed frame old d
    → IsStoppedSafely old byte 267 [] d × (d.flash ≡ old.flash)

-- Harmless devices stay so.
abbrev pub FedStaysHarmless : Type 0
FedStaysHarmless = (old new : Device) (byte : ℕ) (pages : List ℕ) → Harmless old byte pages
    → Feeds byte old new → Harmless new byte pages

abbrev pub ResetStaysHarmless : Type 0
ResetStaysHarmless =
    (d : Device) (byte : ℕ) (pages : List ℕ) → Harmless d byte pages → Harmless (reset d) byte pages

abbrev pub LossStaysHarmless : Type 0
LossStaysHarmless = (old new : Device) (byte : ℕ) (pages : List ℕ) → Harmless old byte pages
    → LosesOwed old new → Harmless new byte pages

-- outside more pages less is promised
abbrev pub MorePagesStayHarmless : Type 0
MorePagesStayHarmless = (d : Device) (byte : ℕ) (fewer more : List ℕ)
    → ((n : ℕ) → n < page_count d.chip → Contains fewer n → Contains more n) → Harmless d byte fewer
    → Harmless d byte more

-- What lies in a page lies in the flash, and all pages are the whole flash.
abbrev pub PageIsInside : Type 0
PageIsInside =
    (chip : ChipData) (page address size : ℕ) → InPage chip page address size
    → IsTrue (fits_inside chip address size)

abbrev pub SameOutsideNoneIsSame : Type 0
SameOutsideNoneIsSame =
    (chip : ChipData) (old new : List ℕ) → length old ≡ flash_size chip
    → SameOutside chip [] old new → new ≡ old
