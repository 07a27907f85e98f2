-- A chip, and its flash: one list of bytes from the chip's base on, parted into pages.
use Rattle.std.specs.Prelude.{◌≡◌, ℕ, ◌+◌, ◌%◌, ◌^◌, ◌<◌, ◌≤◌, ◌⊎◌, Bool, ◌&&◌, nat_lt, nat_le}
use Rattle.std.specs.Prelude.{◌||◌, true, IsTrue, Option, None, Some}
use Rattle.std.specs.Prelude.{List, [], ◌++◌, length, take, drop, replicate, slice_index, sum, All}
use Rattle.stm_wire.specs.UniqueId.{IsUniqueId, is_unique_length}
use Rattle.stm_wire.specs.Places.{no_places}
use Rattle.stm_wire.specs.declared.places.BoardPlaces.{BoardPlaces}
use Rattle.stm_wire.specs.declared.places.UniquePlace.{UniquePlace}
use Rattle.stm_wire.specs.declared.chip.EraseKind.{EraseKind}
use Rattle.stm_wire.specs.declared.chip.EraseKind.TheVariants.{Page, Extended}

-- what is known of a device's chip and flash, and the number of this very device
pub record ChipData : Type 0 where
  pub id : ℕ
  -- the address of the flash's first byte
  pub base : ℕ
  -- the sizes of the pages, in order
  pub sizes : List ℕ
  pub kind : EraseKind
  -- what an erased place holds
  pub erased : ℕ
  -- where a device of this kind tells its board
  pub places : BoardPlaces
  -- the number that this very device has, where it told it, and else none
  pub unique : List ℕ

-- a chip of which no place is known, and whose device told no number
abbrev pub chip_of : ℕ → ℕ → List ℕ → EraseKind → ℕ → ChipData
chip_of id base sizes kind erased = record {
  id = id;
  base = base;
  sizes = sizes;
  kind = kind;
  erased = erased;
  places = no_places;
  unique = [];
}

-- the chip that tells its board at these places
abbrev pub at_places : BoardPlaces → ChipData → ChipData
at_places places chip = record chip { places = places }

-- the chip of a device that told this number
abbrev pub of_board : List ℕ → ChipData → ChipData
of_board unique chip = record chip { unique = unique }

-- how many pages the flash has
abbrev pub page_count : ChipData → ℕ
page_count chip = length chip.sizes

-- how many bytes the flash has
abbrev pub flash_size : ChipData → ℕ
flash_size chip = sum chip.sizes

-- how many bytes page n has
abbrev pub page_size : ChipData → ℕ → ℕ
page_size chip n = slice_index chip.sizes n

-- what an erased place holds
abbrev pub erased_byte : ChipData → ℕ
erased_byte chip = chip.erased

-- where page n begins, counted from the flash's first byte
abbrev pub page_offset : ChipData → ℕ → ℕ
page_offset chip n = sum (take n chip.sizes)

-- page n of a flash
abbrev pub page_of : ChipData → List ℕ → ℕ → List ℕ
page_of chip flash n = take (page_size chip n) (drop (page_offset chip n) flash)

-- the flash with these bytes at this place, counted from its first byte
abbrev pub with_bytes : ℕ → List ℕ → List ℕ → List ℕ
with_bytes at bytes flash = take at flash ++ bytes ++ drop (at + length bytes) flash

-- the flash with these bytes as page n
abbrev pub with_page : ChipData → ℕ → List ℕ → List ℕ → List ℕ
with_page chip n bytes flash = with_bytes (page_offset chip n) bytes flash

-- the bytes of page n when it is erased
abbrev pub erased_page : ChipData → ℕ → List ℕ
erased_page chip n = replicate (page_size chip n) (erased_byte chip)

-- so many bytes at this place are erased
abbrev pub IsErasedAt : ChipData → ℕ → ℕ → List ℕ → Type 0
IsErasedAt chip at size flash = take size (drop at flash) ≡ replicate size (erased_byte chip)

-- n bytes from this address lie inside the flash
abbrev pub fits_inside : ChipData → ℕ → ℕ → Bool
fits_inside chip address n =
    nat_le chip.base address && nat_le (address + n) (chip.base + flash_size chip)

-- the address lies inside the flash
abbrev pub is_inside : ChipData → ℕ → Bool
is_inside chip address = nat_le chip.base address && nat_lt address (chip.base + flash_size chip)

-- n bytes from this address lie outside the flash, and end at 2^32 at the latest
abbrev pub is_outside : ChipData → ℕ → ℕ → Bool
is_outside chip address n =
    nat_le (address + n) (2 ^ 32)
    && (nat_le (address + n) chip.base || nat_le (chip.base + flash_size chip) address)

-- a unique id may stand there
abbrev pub is_unique_place : ChipData → Option UniquePlace → Bool
is_unique_place chip None = true
is_unique_place chip (Some place) =
    is_unique_length place.length && is_outside chip place.address place.length

-- the size of the flash may stand there
abbrev pub is_size_place : ChipData → Option ℕ → Bool
is_size_place chip None = true
is_size_place chip (Some address) = is_outside chip address 2

-- a chip may tell its board there
abbrev pub are_places : ChipData → BoardPlaces → Bool
are_places chip places = is_unique_place chip places.unique && is_size_place chip places.size

-- an erased place has each of its bits set, or none
abbrev pub IsErasedByte : ℕ → Type 0
IsErasedByte byte = (byte ≡ 0) ⊎ (byte ≡ 0xFF)

-- how many bytes a page may have: a multiple of 256, at least 256
abbrev pub IsPageSize : ℕ → Type 0
IsPageSize size = (256 ≤ size) × (size % 256 ≡ 0)

-- how many pages a chip of this kind may have: a number of one byte, or of two
abbrev pub page_limit : EraseKind → ℕ
page_limit Page = 256
page_limit Extended = 512

-- the limits of a chip
pub record IsChip (chip : ChipData) : Type 0 where
  pub id : chip.id < 2 ^ 16
  pub first_page : 1 ≤ page_count chip
  pub last_page : page_count chip ≤ page_limit chip.kind
  pub sizes : All IsPageSize chip.sizes
  pub size : flash_size chip ≤ 2097152
  pub above : 0x01000000 ≤ chip.base
  pub aligned : chip.base % 256 ≡ 0
  pub end : chip.base + flash_size chip ≤ 2 ^ 32
  pub erased : IsErasedByte chip.erased
  pub places : IsTrue (are_places chip chip.places)
  pub unique : IsUniqueId chip.unique
