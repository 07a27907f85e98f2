-- How a session settles its device; and a device that was reset since the last session.
use Rattle.std.specs.Prelude.{◌≡◌, ℕ, ◌+◌, ◌*◌, ◌==◌, if◌then◌else◌, min, max, Bool}
use Rattle.std.specs.Prelude.{List, [], Option, Some, None}
use Rattle.stm_wire.specs.declared.chip.EraseKind.{EraseKind}
use Rattle.stm_wire.specs.declared.chip.EraseKind.TheVariants.{Page, Extended}
use Rattle.stm_wire.specs.declared.intent.Intent.{Intent}
use Rattle.stm_wire.specs.declared.intent.Intent.TheVariants.{Erase, Program}
use Rattle.stm_wire.specs.Call.{Call}
use Rattle.stm_wire.specs.Device.{Device, Fresh}
use Rattle.stm_wire.specs.Intents.{settling_byte}
use Rattle.stm_wire.specs.SettlingCalls.{EndsInBatches, EndsSettled}

-- it waits for 7F and owes nothing
pub record IsReset (d : Device) : Type 0 where
  pub phase : d.phase ≡ Fresh
  pub owed : d.owed ≡ []

-- with this byte until it is refused, so often at most: 7F byte by byte and others in batches, or
-- whatever the byte in batches
pub data Way : Type 0 where
  Settles : ℕ → ℕ → Way
  SettlesInBatches : ℕ → ℕ → Way

-- the byte that is put
abbrev pub byte_of : Way → ℕ
byte_of (Settles byte limit) = byte
byte_of (SettlesInBatches byte limit) = byte

-- and how often at most, before 7F connects a device that has refused none
abbrev pub limit_of : Way → ℕ
limit_of (Settles byte limit) = limit
limit_of (SettlesInBatches byte limit) = limit

-- how that ends where the device is settled
abbrev pub EndsWell : Way → List Call → Type 0
EndsWell (Settles byte limit) calls = EndsSettled byte limit calls
EndsWell (SettlesInBatches byte limit) calls = EndsInBatches byte limit calls

-- how a session whose journal has no intent settles its device: with 7F
abbrev pub contact_way : Way
contact_way = Settles 0x7F 131072

-- How often the byte of an erase is sent at most where pages have numbers of two bytes: behind 44 BB
-- the byte twice is a count of 257 * byte + 1 pages; and with 7F once ahead of it, where that may
-- have been sent, it is the low byte of one of 32,513 pages and more. 7F is also the byte of a host
-- without an intent.
abbrev pub limit_for : Bool → ℕ → ℕ
limit_for greeted byte =
    let least = if greeted then byte * 2 + 65030 else 512 in
    if byte == 0x7F then 131072 else min (max (byte * 514 + 8) least) 131072

-- How often an undo sends its settling byte at most, by the kind of the journal's chip, whether it
-- says that 7F may have been sent, and its intent: as often as any such device awaits it, or more. Two batches are enough behind a
-- write, and where a list of pages has one byte for each.
abbrev pub settling_limit : EraseKind → Bool → Option Intent → ℕ
settling_limit kind greeted None = 131072
settling_limit kind greeted (Some (Program page)) = 512
settling_limit Page greeted (Some (Erase page)) = 512
settling_limit Extended greeted (Some (Erase page)) =
    limit_for greeted (settling_byte (Some (Erase page)))

-- with the byte of the journal's intent: under one it goes in batches, also where the byte is 7F,
-- for an erase of page 127 may have begun a list of more than a hundred pages
abbrev pub settling_way : EraseKind → Bool → Option Intent → Way
settling_way kind greeted None = Settles 0x7F (settling_limit kind greeted None)
settling_way kind greeted (Some intent) =
    SettlesInBatches (settling_byte (Some intent)) (settling_limit kind greeted (Some intent))
