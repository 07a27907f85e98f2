-- A table that is read over another.
use Rattle.std.specs.Prelude.{◌≡◌, ◌==◌, ℕ, List, Option, find}
use Rattle.std.specs.Option.{option_or}
use Rattle.stm_wire.specs.Chip.{ChipData}

-- the chip with this id, where there is one
abbrev pub chip_by_id : List ChipData → ℕ → Option ChipData
chip_by_id chips id = find (λ chip. chip.id == id) chips

-- for each id the chip is that of the upper table, where it has one, and else that of the lower
abbrev pub IsOver : List ChipData → List ChipData → List ChipData → Type 0
IsOver upper lower joined =
    (id : ℕ) → chip_by_id joined id ≡ option_or (chip_by_id upper id) (chip_by_id lower id)
