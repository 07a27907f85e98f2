-- What a crash of the PC may leave of a file that only grows.
use Rattle.std.specs.Prelude.{◌≡◌, ◌≤◌, ◌<◌, ◌/◌, ℕ, List, length, take, get_or}
use Rattle.stm_disk.specs.Sectors.{sector}

-- A byte that the file had when its sector was last written is there. What is there in place of any
-- later one is NUL, or a byte of another file, and no LF.
abbrev pub HoldsAt : ℕ → List ℕ → List ℕ → ℕ → Type 0
HoldsAt had seen left i =
    (i < had → get_or left i 0 ≡ get_or seen i 0) × (had ≤ i → get_or left i 0 ≡ 10 → ⊥)

-- What a crash may leave of a file of these bytes, of which so many from the first on are synced.
pub record MayBeLeft (synced : ℕ) (seen left : List ℕ) : Type 0 where
  -- the length is any from that of the last sync on, with the bytes on the disk or ahead of them
  pub least : synced ≤ length left
  pub most : length left ≤ length seen
  -- what was synced is there
  pub kept : take synced left ≡ take synced seen
  -- each sector was last written when the file had some number of bytes, whatever the others were
  pub sectors : (number : ℕ) → (had : ℕ)
      × ((i : ℕ) → i / sector ≡ number → i < length left → HoldsAt had seen left i)
