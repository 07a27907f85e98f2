-- A chip with as many pages as its device has.
use Rattle.std.specs.Prelude.{ℕ, ◌+◌, ◌-◌, ◌*◌, ◌<◌, ◌≤◌, ◌==◌, ◌↔◌, suc, nat_le}
use Rattle.std.specs.Prelude.{List, [], ◌∷◌, take, if◌then◌else◌}
use Rattle.stm_wire.specs.Chip.{ChipData, page_count, page_offset, page_size}

-- how many of these pages, from the first on, lie wholly inside so many bytes
unfoldable pub pages_within : List ℕ → ℕ → ℕ
pages_within [] bytes = 0
pages_within (size ∷ sizes) bytes =
    if nat_le size bytes then suc (pages_within sizes (bytes - size)) else 0

-- the first n of these pages, and all of them where n is 0
abbrev pub first_pages : ℕ → List ℕ → List ℕ
first_pages n sizes = if n == 0 then sizes else take n sizes

-- the chip with the pages that lie inside so many KiB; where none does, with all
abbrev pub cut_to : ℕ → ChipData → ChipData
cut_to kib chip =
    record chip { sizes = first_pages (pages_within chip.sizes (kib * 1024)) chip.sizes }

-- they are those pages that end inside so many bytes
abbrev pub EndInside : ChipData → ℕ → Type 0
EndInside chip bytes =
    (n : ℕ) → n < page_count chip
    → ((n < pages_within chip.sizes bytes) ↔ (page_offset chip n + page_size chip n ≤ bytes))
