-- A device with weak pages, and what a byte does to it.
--
-- What its flash has in a weak page tells nothing: as each byte comes, the page holds anything
-- anew. So each read of it may answer other bytes, until an erase of the whole page is done.
use Rattle.std.specs.Prelude.{◌≡◌, ◌⊎◌, ℕ, ◌+◌, ◌<◌, ◌≤◌, Bool, IsTrue, List, [], ◌∷◌, ◌++◌}
use Rattle.std.specs.Prelude.{length, get_or, All, Contains, Some}
use Rattle.stm_wire.specs.declared.verdict.Verdict.TheVariants.{Done}
use Rattle.stm_wire.specs.Chip.{ChipData, page_count, page_offset, page_size}
use Rattle.stm_wire.specs.Exchange.{number_of, verdict}
use Rattle.stm_wire.specs.Effect.{Change, Nothing, ErasePages, EraseAll, Write, change_of}
use Rattle.stm_wire.specs.Device.{Device, Connected, Feeds}

pub record WeakDevice : Type 0 where
  pub device : Device
  -- which pages are weak
  pub weak : ℕ → Bool

-- none of its pages is
abbrev pub NoneIsWeak : WeakDevice → Type 0
NoneIsWeak w = (n : ℕ) → n < page_count w.device.chip → IsTrue (w.weak n) → ⊥

-- a place of the flash, counted from its first byte, lies in a weak page
pub record IsWeakAt (chip : ChipData) (weak : ℕ → Bool) (place : ℕ) : Type 0 where
  pub page : ℕ
  pub is : IsTrue (weak page)
  pub from : page_offset chip page ≤ place
  pub to : place < page_offset chip page + page_size chip page

-- the two flashes agree in each place that lies in no weak page
pub record AgreesOutside (chip : ChipData) (weak : ℕ → Bool) (old new : List ℕ) : Type 0 where
  pub same_length : length new ≡ length old
  pub elsewhere : (place : ℕ) → (IsWeakAt chip weak place → ⊥)
      → get_or new place 0 ≡ get_or old place 0

-- An ordinary device that it can be taken for: only bytes of weak pages differ.
pub record CanBe (w : WeakDevice) (d : Device) : Type 0 where
  pub chip : d.chip ≡ w.device.chip
  pub version : d.version ≡ w.device.version
  pub codes : d.codes ≡ w.device.codes
  pub owed : d.owed ≡ w.device.owed
  pub phase : d.phase ≡ w.device.phase
  pub flash : AgreesOutside w.device.chip w.weak w.device.flash d.flash
  pub bytes : All (λ byte. byte < 256) d.flash

-- with this byte the device has the whole of a list that is done
pub record Completes (byte : ℕ) (d : Device) (bytes : List ℕ) : Type 0 where
  pub rest : List ℕ
  pub phase : d.phase ≡ Connected rest
  pub is : bytes ≡ rest ++ byte ∷ []
  pub done : verdict d.chip d.codes bytes ≡ Some Done

-- the change erases the whole of page n
abbrev pub ErasesPage : Change → ℕ → Type 0
ErasesPage Nothing n = ⊥
ErasesPage (ErasePages pages) n = Contains pages n
ErasesPage EraseAll n = Unit {0}
ErasesPage (Write address sent) n = ⊥

-- the byte completes an erase of page n
abbrev pub Heals : ℕ → Device → ℕ → Type 0
Heals byte d n = (bytes : List ℕ) × Completes byte d bytes × ErasesPage (change_of bytes) n

-- The byte, fed to it, may leave new. It is fed to a device that this one can be taken for at that
-- moment. A page that is weak stays so until an erase of it is done; another may become weak at
-- any moment.
pub record WeakFeeds (byte : ℕ) (old new : WeakDevice) : Type 0 where
  pub now : Device
  pub can_be : CanBe old now
  pub feeds : Feeds byte now new.device
  pub stays : (n : ℕ) → IsTrue (old.weak n) → IsTrue (new.weak n) ⊎ Heals byte old.device n

-- after 11 EE: the read that it asks for has this place of the flash
abbrev pub IsInRead : ChipData → List ℕ → ℕ → Type 0
IsInRead chip (a ∷ b ∷ c ∷ d ∷ check ∷ n ∷ rest) place =
    (number_of a b c d ≤ chip.base + place)
    × (chip.base + place < number_of a b c d + (n + 1))
IsInRead chip bytes place = ⊥

abbrev pub ReadsPlace : ChipData → List ℕ → ℕ → Type 0
ReadsPlace chip (code ∷ check ∷ rest) place = (code ≡ 0x11) × IsInRead chip rest place
ReadsPlace chip bytes place = ⊥

-- the byte completes a read that has a place in a weak page
abbrev pub ReadsWeak : ℕ → WeakDevice → Type 0
ReadsWeak byte w = (bytes : List ℕ) × (place : ℕ) × Completes byte w.device bytes
    × ReadsPlace w.device.chip bytes place × IsWeakAt w.device.chip w.weak place
