-- Where an image lies in a chip's flash.
use Rattle.std.specs.Prelude.{ℕ, ◌+◌, ◌<◌, ◌≤◌, ◌↔◌, List, IsTrue, AllPairs, Contains}
use Rattle.stm_image.specs.Pairs.{Pairs}
use Rattle.stm_wire.specs.Chip.{ChipData, page_count, page_offset, page_size, is_inside}

-- a place of the image lies in page n
pub record Touches (chip : ChipData) (image : Pairs) (n : ℕ) : Type 0 where
  pub pair : ℕ × ℕ
  pub held : Contains image pair
  pub page : n < page_count chip
  pub from : chip.base + page_offset chip n ≤ pair.0
  pub to : pair.0 < chip.base + page_offset chip n + page_size chip n

-- a place of the image lies outside the flash
pub record HasOutside (chip : ChipData) (image : Pairs) : Type 0 where
  pub pair : ℕ × ℕ
  pub held : Contains image pair
  pub outside : ¬ IsTrue (is_inside chip pair.0)

-- these are the pages that hold a place of the image, rising, each once
pub record AreTouched (chip : ChipData) (image : Pairs) (pages : List ℕ) : Type 0 where
  pub rising : AllPairs (λ m n. m < n) pages
  pub each : (n : ℕ) → Contains pages n ↔ Touches chip image n

-- a place of the image lies before this address
pub record HasBefore (image : Pairs) (address : ℕ) : Type 0 where
  pub pair : ℕ × ℕ
  pub held : Contains image pair
  pub before : pair.0 < address

-- a place of the image lies at this address or after it
pub record HasFrom (image : Pairs) (address : ℕ) : Type 0 where
  pub pair : ℕ × ℕ
  pub held : Contains image pair
  pub from : address ≤ pair.0

-- a place of the image lies among so many bytes from this address on
pub record HasWithin (image : Pairs) (start size : ℕ) : Type 0 where
  pub pair : ℕ × ℕ
  pub held : Contains image pair
  pub from : start ≤ pair.0
  pub to : pair.0 < start + size

-- those of the first n pages that hold a place of the image
pub record TouchedBelow (chip : ChipData) (image : Pairs) (n : ℕ) (pages : List ℕ) : Type 0 where
  pub rising : AllPairs (λ m n. m < n) pages
  pub each : (m : ℕ) → Contains pages m ↔ ((m < n) × Touches chip image m)
