-- Which frames complete no read of a weak page, whatever is weak.
use Rattle.std.specs.Prelude.{◌≡◌, ℕ, ◌≤◌, IsTrue, List, [], ◌++◌, length, Some}
use Rattle.stm_wire.specs.declared.places.UniquePlace.{UniquePlace}
use Rattle.stm_wire.specs.Chip.{ChipData, fits_inside}
use Rattle.stm_wire.specs.Device.{Device, Fresh, Connected, IsDevice}
use Rattle.stm_wire.specs.Frames.{command, erase_frame, read_frame, write_frame}
use Rattle.stm_wire.specs.SentList.{settling_run}
use Rattle.stm_weak.specs.WeakDevice.{WeakDevice, CanBe}
use Rattle.stm_weak.specs.WeakRuns.{WeakHappening, HasNoReset, IsUnread, WeakBefall, fed_bytes}

-- a frame that asks which commands a device has, or what it is, or reads where it tells its unique
-- id, erases a page, or writes
pub data ReadsNoFlash (chip : ChipData) (frame : List ℕ) : Type 0 where
  asks : frame ≡ command 0x00 → ReadsNoFlash chip frame
  names : frame ≡ command 0x02 → ReadsNoFlash chip frame
  tells : (place : UniquePlace) (size : ℕ) → chip.places.unique ≡ Some place
      → frame ≡ read_frame place.address size → ReadsNoFlash chip frame
  erases : (n : ℕ) → frame ≡ erase_frame chip.kind n → ReadsNoFlash chip frame
  writes : (address : ℕ) (bytes : List ℕ) → 1 ≤ length bytes
      → IsTrue (fits_inside chip address (length bytes)) → frame ≡ write_frame address bytes
      → ReadsNoFlash chip frame

-- the bytes are a beginning of these
abbrev pub BeginsOf : List ℕ → List ℕ → Type 0
BeginsOf bytes frame = (rest : List ℕ) × (bytes ++ rest ≡ frame)

-- Where a device waits for a command, each beginning of such a frame is fed to it unread, also
-- where the bytes that it owes are taken meanwhile.
abbrev pub FramesAreUnread : Type 0
FramesAreUnread = (happenings : List WeakHappening) (old new : WeakDevice) (d : Device)
    (frame : List ℕ) → IsDevice d → CanBe old d → d.phase ≡ Connected []
    → ReadsNoFlash d.chip frame → BeginsOf (fed_bytes happenings) frame → HasNoReset happenings
    → (led : WeakBefall happenings old new) → IsUnread happenings old new led

-- A device that was reset, or lost its power, is settled unread, with whichever byte.
abbrev pub FreshSettlingIsUnread : Type 0
FreshSettlingIsUnread = (happenings : List WeakHappening) (old new : WeakDevice) (byte limit : ℕ)
    → old.device.phase ≡ Fresh → BeginsOf (fed_bytes happenings) (settling_run byte limit)
    → HasNoReset happenings → (led : WeakBefall happenings old new)
    → IsUnread happenings old new led
