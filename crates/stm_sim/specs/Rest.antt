-- What the simulator keeps of the bytes since the last verdict, so that it need not look at them
-- again.
use Rattle.std.specs.Prelude.{◌≡◌, ℕ, ◌<◌, ◌==◌, if◌then◌else◌, List}
use Rattle.std.specs.Prelude.{[], ◌∷◌, ◌++◌, length, drop, None}
use Rattle.stm_sim.specs.declared.simulator.rest.Rest.{Rest}
use Rattle.stm_wire.specs.Chip.{ChipData}
use Rattle.stm_wire.specs.Exchange.{IsOpen, all_exist, two_byte_numbers, verdict, xor}

-- whatever follows, the list has no verdict before n bytes more came
abbrev pub IsAwaiting : ChipData → List ℕ → List ℕ → ℕ → Type 0
IsAwaiting chip codes bytes n =
    (more : List ℕ) → length more < n → verdict chip codes (bytes ++ more) ≡ None

-- the numbers behind the count of a page list, as far as they have come
abbrev pub named_pages : List ℕ → List ℕ
named_pages (code ∷ check ∷ rest) =
    if code == 0x43 then drop 1 rest
    else (if code == 0x44 then two_byte_numbers (drop 2 rest)
    else [])
named_pages bytes = []

-- the list is open, and what is kept of it is true
pub record IsCurrent (chip : ChipData) (codes : List ℕ) (rest : Rest) : Type 0 where
  pub no_verdict : IsOpen chip codes rest.bytes.items
  pub awaited : IsAwaiting chip codes rest.bytes.items rest.awaited
  pub check : rest.check ≡ xor rest.bytes.items
  pub pages_exist : rest.pages_exist ≡ all_exist chip (named_pages rest.bytes.items)
