-- What it means that a page is weak: a read of it may answer any bytes, and an erase ends that.
use Rattle.std.specs.Prelude.{◌≡◌, ℕ, ◌+◌, ◌<◌, ◌≤◌, IsTrue, List, [], ◌∷◌, ◌++◌, length, All}
use Rattle.stm_wire.specs.Chip.{fits_inside, page_count}
use Rattle.stm_wire.specs.Device.{Device, Connected, IsDevice}
use Rattle.stm_wire.specs.Frames.{erase_frame, read_frame}
use Rattle.stm_wire.specs.Reply.{ack}
use Rattle.stm_weak.specs.WeakDevice.{WeakDevice, CanBe, Heals, IsWeakAt, WeakFeeds}

-- The byte completes a read of places that are all weak: whichever bytes these are, the device may
-- answer them.
abbrev pub ReadsAnything : Type 0
ReadsAnything = (w : WeakDevice) (d : Device) (rest : List ℕ) (byte address : ℕ) (told : List ℕ)
    → IsDevice d → CanBe w d → d.phase ≡ Connected rest
    → rest ++ byte ∷ [] ≡ read_frame address (length told)
    → 1 ≤ length told → IsTrue (fits_inside d.chip address (length told))
    → ((place : ℕ) → address ≤ d.chip.base + place
    → d.chip.base + place < address + length told → IsWeakAt d.chip w.weak place)
    → All (λ b. b < 256) told
    → (new : WeakDevice) × WeakFeeds byte w new × (new.device.owed ≡ d.owed ++ ack ∷ told)

-- The last byte of a frame that erases page n heals it.
abbrev pub EraseHeals : Type 0
EraseHeals = (d : Device) (rest : List ℕ) (byte n : ℕ) → IsDevice d → n < page_count d.chip
    → d.phase ≡ Connected rest → rest ++ byte ∷ [] ≡ erase_frame d.chip.kind n → Heals byte d n
