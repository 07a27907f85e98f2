-- Lists of the bytes that a session may send: bytes that settle, and then frames.
use Rattle.std.specs.Prelude.{◌≡◌, ◌⊎◌, ℕ, ◌<◌, ◌≤◌, List, [], ◌∷◌, ◌++◌}
use Rattle.std.specs.Prelude.{length, take, replicate, Option, Some}
use Rattle.stm_wire.specs.Chip.{ChipData, page_count}
use Rattle.stm_wire.specs.declared.places.UniquePlace.{UniquePlace}
use Rattle.stm_wire.specs.Frames.{address_bytes, command, erase_frame, read_frame, with_checksum}
use Rattle.stm_wire.specs.Frames.{write_frame}
use Rattle.stm_wire.specs.Intents.{InPage}

-- of a read that may be refused: its frame, or of that the code alone, or the code and the address
abbrev pub IsHeadOfRead : ℕ → ℕ → List ℕ → Type 0
IsHeadOfRead address size bytes = (bytes ≡ read_frame address size)
    ⊎ ((bytes ≡ command 0x11) ⊎ (bytes ≡ command 0x11 ++ with_checksum (address_bytes address)))

-- The frames that a session may send to a device with this chip, where it knows it: beside the flash
-- it reads the chip's unique id alone.
pub data IsFrame (chip : Option ChipData) (bytes : List ℕ) : Type 0 where
  get : bytes ≡ command 0x00 → IsFrame chip bytes
  get_id : bytes ≡ command 0x02 → IsFrame chip bytes
  read : (c : ChipData) (page address size : ℕ) → chip ≡ Some c → 1 ≤ size → size ≤ 256
      → InPage c page address size → bytes ≡ read_frame address size → IsFrame chip bytes
  write : (c : ChipData) (page address : ℕ) (sent : List ℕ) → chip ≡ Some c → 1 ≤ length sent
      → length sent ≤ 256
      → InPage c page address (length sent) → bytes ≡ write_frame address sent → IsFrame chip bytes
  erase : (c : ChipData) (page : ℕ) → chip ≡ Some c → page < page_count c
      → bytes ≡ erase_frame c.kind page → IsFrame chip bytes
  tells : (c : ChipData) (place : UniquePlace) → chip ≡ Some c → c.places.unique ≡ Some place
      → IsHeadOfRead place.address place.length bytes → IsFrame chip bytes

-- all that settling may put: the byte so many times, 7F, and the byte twice
abbrev pub settling_run : ℕ → ℕ → List ℕ
settling_run byte limit = replicate limit byte ++ 0x7F ∷ byte ∷ byte ∷ []

-- a beginning of it
abbrev pub IsSettlingRun : ℕ → ℕ → List ℕ → Type 0
IsSettlingRun byte limit bytes = (n : ℕ) × (bytes ≡ take n (settling_run byte limit))
