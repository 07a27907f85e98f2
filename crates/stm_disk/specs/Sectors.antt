-- Lines in the sectors of a disk, which writes each of them whole or not at all, in any order.
use Rattle.std.specs.Prelude.{◌≡◌, ◌+◌, ◌≤◌, ◌<◌, ◌/◌, ◌⊎◌, ℕ, List, length, get_or}

-- how many bytes a sector has
abbrev pub sector : ℕ
sector = 512

-- These bytes stand in a file from `at` on. Each LF among them stands in one sector with all of
-- them that are before it: whichever sectors are written, no LF is there without them.
abbrev pub LinesEndWhole : ℕ → List ℕ → Type 0
LinesEndWhole at bytes = (i j : ℕ) → j ≤ i → i < length bytes → get_or bytes i 0 ≡ 10
    → (at + j) / sector ≡ (at + i) / sector

-- it goes on to the end, or to an LF
abbrev pub StopsAtLineEnd : List ℕ → ℕ → Type 0
StopsAtLineEnd bytes count = (count ≡ length bytes) ⊎ (get_or bytes count 0 ≡ 10)
