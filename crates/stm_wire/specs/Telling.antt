-- What a device tells when it is read: its flash, and beside it, at the places that its chip has
-- for that, its unique id and the size of its flash.
use Rattle.std.specs.Prelude.{ℕ, ◌-◌, ◌/◌, ◌%◌, Bool, ◌&&◌, ◌||◌, ◌==◌, false, if◌then◌else◌}
use Rattle.std.specs.Prelude.{List, [], ◌∷◌, length, take, drop, Option, None, Some}
use Rattle.stm_wire.specs.Chip.{ChipData, flash_size, fits_inside, is_inside}
use Rattle.stm_wire.specs.declared.places.UniquePlace.{UniquePlace}

-- a unique id of so many bytes stands at this address
abbrev pub has_unique : Option UniquePlace → ℕ → ℕ → Bool
has_unique None address n = false
has_unique (Some place) address n = place.address == address && place.length == n

-- the size stands there
abbrev pub has_size : Option ℕ → ℕ → Bool
has_size None address = false
has_size (Some at) address = at == address

-- a read of so many bytes from there is one of the device's number, which it has
abbrev pub asks_unique : ChipData → ℕ → ℕ → Bool
asks_unique chip address n =
    has_unique chip.places.unique address n && length chip.unique == n

-- it is one of the size of its flash
abbrev pub asks_size : ChipData → ℕ → ℕ → Bool
asks_size chip address n = has_size chip.places.size address && n == 2

-- it may be read
unfoldable pub can_read : ChipData → ℕ → ℕ → Bool
can_read chip address n =
    fits_inside chip address n || (asks_unique chip address n || asks_size chip address n)

-- some number of bytes may be read from this address
unfoldable pub is_readable : ChipData → ℕ → Bool
is_readable chip address =
    is_inside chip address
    || (asks_unique chip address (length chip.unique) || has_size chip.places.size address)

-- the addresses that a read takes, and those of a write and of Go
abbrev pub takes_at : ChipData → ℕ → (ℕ → Bool)
takes_at chip code = if code == 0x11 then is_readable chip else is_inside chip

-- how many KiB a flash of so many bytes has, as two bytes, the lower one first
abbrev pub kib_bytes : ℕ → List ℕ
kib_bytes size = size / 1024 % 256 ∷ size / 1024 / 256 % 256 ∷ []

-- the bytes that are told of a device with this chip and this flash
abbrev pub readable_bytes : ChipData → List ℕ → ℕ → ℕ → List ℕ
readable_bytes chip flash address n =
    if fits_inside chip address n then take n (drop (address - chip.base) flash)
    else (if asks_unique chip address n then chip.unique
    else kib_bytes (flash_size chip))
