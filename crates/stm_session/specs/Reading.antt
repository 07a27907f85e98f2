-- How bytes of flash are read: in blocks that stay within a page.
use Rattle.std.specs.Prelude.{◌≡◌, ℕ, ◌+◌, ◌-◌, ◌<◌, ◌≤◌, min}
use Rattle.stm_wire.specs.Chip.{ChipData, flash_size, page_count, page_offset, page_size}
use Rattle.stm_image.specs.Pairs.{Pairs, IsNext}
use Rattle.stm_session.specs.declared.reading.Block.{Block}
use Rattle.stm_session.specs.declared.reading.Place.{Place}

-- a page, and how many bytes of the flash lie before it; the page doesn't lie behind this address
pub record IsNotBehind (chip : ChipData) (address : ℕ) (place : Place) : Type 0 where
  pub exists : place.page ≤ page_count chip
  pub before : place.before ≡ page_offset chip place.page
  pub begins : place.before ≤ address - chip.base

-- the page holds the address
pub record HoldsAddress (chip : ChipData) (address : ℕ) (place : Place) : Type 0 where
  pub exists : place.page < page_count chip
  pub before : place.before ≡ page_offset chip place.page
  pub begins : chip.base + place.before ≤ address
  pub ends : address < chip.base + place.before + page_size chip place.page

-- so many bytes are left, from this address on, of the page that holds it
pub record IsPageRest (chip : ChipData) (address rest : ℕ) : Type 0 where
  pub page : ℕ
  pub exists : page < page_count chip
  pub begins : chip.base + page_offset chip page ≤ address
  pub some : 1 ≤ rest
  pub ends : address + rest ≡ chip.base + page_offset chip page + page_size chip page

-- a call reads as much as is left, but no more than it may and no byte of another page
pub record IsBlock (chip : ChipData) (address left size : ℕ) : Type 0 where
  pub rest : ℕ
  pub is_rest : IsPageRest chip address rest
  pub cut : size ≡ min (min 256 rest) left

-- The next block in which the image names a place, where the bytes before this offset were
-- compared: it begins at that place.
pub record IsNextBlock (chip : ChipData) (image : Pairs) (done : ℕ) (block : Block) : Type 0 where
  pub byte : ℕ
  pub next : IsNext image (chip.base + done) (block.address, byte)
  pub inside : block.address < chip.base + flash_size chip
  pub place : HoldsAddress chip block.address block.place
  pub size : IsBlock chip block.address (flash_size chip - (block.address - chip.base)) block.size
