-- What a host that was stopped had been about to do, and by which byte and in which pages that is
-- settled.
use Rattle.std.specs.Prelude.{ℕ, ◌+◌, ◌<◌, ◌≤◌, ◌==◌, nat_lt, if◌then◌else◌}
use Rattle.std.specs.Prelude.{List, [], ◌∷◌, Option, Some, None}
use Rattle.stm_wire.specs.declared.intent.Intent.{Intent}
use Rattle.stm_wire.specs.declared.intent.Intent.TheVariants.{Erase, Program}
use Rattle.stm_wire.specs.Chip.{ChipData, page_count, page_offset, page_size}

-- The byte that ends an exchange which was stopped under this intent, without harm. A page from 256
-- on is settled by 02: the pair 02 02 names page 514, which no chip has, and page 0102 after the
-- bytes 00 00 01 has another check than 02.
abbrev pub settling_byte : Option Intent → ℕ
settling_byte None = 0x7F
settling_byte (Some (Erase n)) = if nat_lt n 256 then n else 0x02
settling_byte (Some (Program n)) = 0x02

-- What this intent's settling byte may change. After 44 BB 00 bytes 01 are the count 0001, page 257
-- twice, and their check.
abbrev pub intended_pages : Option Intent → List ℕ
intended_pages None = []
intended_pages (Some (Erase n)) = if n == 1 then 1 ∷ 257 ∷ [] else n ∷ []
intended_pages (Some (Program n)) = n ∷ []

-- size bytes from the address lie in this page
pub record InPage (chip : ChipData) (page address size : ℕ) : Type 0 where
  pub exists : page < page_count chip
  pub begins : chip.base + page_offset chip page ≤ address
  pub ends : address + size ≤ chip.base + page_offset chip page + page_size chip page
