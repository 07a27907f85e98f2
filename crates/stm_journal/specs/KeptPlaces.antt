-- The pages that segments keep, one by one, and where their digits stand.
use Rattle.std.specs.Prelude.{◌≡◌, ℕ, ◌==◌, sum_by, length, Option, Some, option_map}
use Rattle.std.specs.Prelude.{option_and_then, slice_get}
use Rattle.std.specs.List.{find}
use Rattle.std.specs.Option.{option_map_or}
use Rattle.stm_journal.specs.declared.kept.Kept.{Kept}
use Rattle.stm_journal.specs.declared.kept.PagePlace.{PagePlace}
use Rattle.stm_journal.specs.States.{StateData, segment_of}

-- the i-th page line of segment k, from 0
abbrev pub kept_entry : StateData → ℕ → ℕ → Option Kept
kept_entry s k i = option_and_then (λ segment. slice_get segment.pages i) (segment_of s k)

-- what segment k keeps of page n
abbrev pub page_entry : StateData → ℕ → ℕ → Option Kept
page_entry s k n =
    option_and_then (λ segment. find (λ kept. kept.page == n) segment.pages) (segment_of s k)

-- where its digits stand, how many bytes they say, and the number of its line
abbrev pub place_of : Kept → PagePlace
place_of kept = record { at = kept.at; length = length kept.bytes; line = kept.line }

abbrev pub kept_place : StateData → ℕ → ℕ → Option PagePlace
kept_place s k i = option_map place_of (kept_entry s k i)

abbrev pub page_place : StateData → ℕ → ℕ → Option PagePlace
page_place s k n = option_map place_of (page_entry s k n)

-- how many pages segment k keeps
abbrev pub kept_count : StateData → ℕ → ℕ
kept_count s k = option_map_or (λ segment. length segment.pages) (segment_of s k) 0

-- how many pages the segments keep
abbrev pub entries_of : StateData → ℕ
entries_of s = sum_by (λ segment. length segment.pages) s.stack

-- a page of this place is kept
abbrev pub IsPlaceIn : StateData → PagePlace → Type 0
IsPlaceIn s place = (k : ℕ) × (i : ℕ) × (kept_place s k i ≡ Some place)
