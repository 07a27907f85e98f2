-- What a command that begins a segment makes of one page.
use Rattle.std.specs.Prelude.{◌≡◌, ℕ, ◌+◌, ◌<◌, ◌≤◌, Contains, Bool, true, not, ◌==◌, if◌then◌else◌}
use Rattle.std.specs.Prelude.{List, bytes_eq}
use Rattle.std.specs.List.{list_any}
use Rattle.stm_image.specs.Lay.{lay}
use Rattle.stm_image.specs.Pairs.{Pairs}
use Rattle.stm_wire.specs.Chip.{ChipData, erased_page, page_of, page_offset, page_size, with_page}
use Rattle.stm_session.specs.declared.change.Change.{Change}
use Rattle.stm_session.specs.declared.change.Change.TheVariants as change
use Rattle.stm_session.specs.Meaning.{CommandData, writes, erases, flash_after}
use Rattle.stm_session.specs.Answers.{pages_that_differ}

abbrev pub command_of : Change → CommandData
command_of (change.Write image) = writes image.now
command_of (change.Erase pages) = erases pages.now

-- what page n, which holds these bytes, is to hold
abbrev pub content : ChipData → Change → ℕ → List ℕ → List ℕ
content chip (change.Write image) n held = lay image.now (chip.base + page_offset chip n) held
content chip (change.Erase pages) n held =
    if list_any (λ m. m == n) pages.now then erased_page chip n else held

-- the image has a byte for a place in page n
pub record HasPlaceIn (chip : ChipData) (image : Pairs) (n : ℕ) : Type 0 where
  pub place : ℕ × ℕ
  pub held : Contains image place
  pub begins : chip.base + page_offset chip n ≤ place.0
  pub ends : place.0 < chip.base + page_offset chip n + page_size chip n

-- page n may be read and changed: the image has a byte for it, or it is to be erased
abbrev pub MayTouch : ChipData → Change → ℕ → Type 0
MayTouch chip (change.Write image) n = HasPlaceIn chip image.now n
MayTouch chip (change.Erase pages) n = list_any (λ m. m == n) pages.now ≡ true

-- Page n holds these bytes, every other page what it held, and this says
-- whether page n held others.
pub record IsGiven (chip : ChipData) (n : ℕ) (page old new : List ℕ) (changed : Bool) : Type 0 where
  pub flash : new ≡ with_page chip n page old
  pub counts : changed ≡ not (bytes_eq (page_of chip old n) page)

-- The whole flash is the one after a command, and so many pages of it differ.
pub record IsMade (chip : ChipData) (c : Change) (old new : List ℕ) (count : ℕ) : Type 0 where
  pub flash : new ≡ flash_after chip old (command_of c)
  pub counts : count ≡ pages_that_differ chip old (flash_after chip old (command_of c))
