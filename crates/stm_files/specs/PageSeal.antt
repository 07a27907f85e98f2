-- The void line behind a kept page in a journal that names its board: the CRC of the page's bytes.
use Rattle.std.specs.Prelude.{◌≡◌, ℕ, ◌+◌, ◌-◌, ◌==◌, ◌&&◌, Bool, true, false, if◌then◌else◌, List, [], ◌∷◌, ◌++◌}
use Rattle.std.specs.Prelude.{length, take, drop, position, codes, decimal, bytes_eq, is_some}
use Rattle.std.specs.Prelude.{Option, None, Some, option_and_then}
use Rattle.std.specs.Int.{to_be_bytes, w32}
use Rattle.std.specs.Io.KnownBytes.{Appends}
use Rattle.hex.specs.Hex.{encode_upper}
use Rattle.stm_journal.specs.declared.entry.Entry.TheVariants.{Keeps}
use Rattle.stm_journal.specs.Entries.{behind}
use Rattle.stm_journal.specs.Journals.{IsPrintable, added_bytes, mark}
use Rattle.stm_files.specs.PageSum.{page_sum}

-- the line of a CRC
abbrev pub sum_line : ℕ → List ℕ
sum_line sum = codes "crc " ++ (encode_upper (to_be_bytes w32 sum) ++ 33 ∷ 10 ∷ [])

-- the line of what a page was left with: its number, its bytes, so many, and their CRC
abbrev pub left_line : ℕ → List ℕ → List ℕ
left_line page bytes =
    codes "left " ++ (decimal page ++ 32 ∷ (decimal (length bytes)
    ++ 32 ∷ (encode_upper (to_be_bytes w32 (page_sum bytes)) ++ 33 ∷ 10 ∷ [])))

-- what stands behind the mark of a torn tail, or all of it
abbrev pub unmarked : List ℕ → List ℕ
unmarked added = elim (behind (mark true) added) as (λ _. List ℕ) [ None ↦ added | Some rest ↦ rest ]

-- What stands behind the bytes of an append: behind the line of a page, a mark in front of it or none,
-- that of its CRC, and nothing behind what doesn't begin so.
pub record IsSeal (added seal : List ℕ) : Type 0 where
  pub of_page : (torn : Bool) (n : ℕ) (page : List ℕ) → IsPrintable (Keeps n page)
      → added ≡ added_bytes torn (Keeps n page ∷ []) → seal ≡ sum_line (page_sum page)
  pub of_other : behind (codes "page ") (unmarked added) ≡ None → seal ≡ []

-- where a journal has such lines
abbrev pub IsSealIf : Bool → List ℕ → List ℕ → Type 0
IsSealIf true added seal = IsSeal added seal
IsSealIf false added seal = seal ≡ []

-- what stands in front of an append that closes a torn tail, in a journal that has such lines
abbrev pub second_mark : Bool → List ℕ → List ℕ
second_mark seals added = if seals && is_some (behind (mark true) added) then 33 ∷ [] else []

-- bytes were added, behind a second mark where they close a torn tail, and behind them what seals them
abbrev pub AppendsSealed : Bool → Option (List ℕ) → Option (List ℕ) → List ℕ → Type 0
AppendsSealed seals old new added =
    (seal : List ℕ) × IsSealIf seals added seal
    × Appends old new (second_mark seals added ++ (added ++ seal))

-- an append begins a journal that names its board
abbrev pub names_board : List ℕ → Bool
names_board added = is_some (behind (codes "stmjournal 3 ") (unmarked added))

-- what stands in front of these bytes, where a line ends with them
abbrev pub ahead : List ℕ → List ℕ → Option (List ℕ)
ahead end line =
    if bytes_eq (drop (length line - length end) line) end
    then Some (take (length line - length end) line) else None

-- what stands behind the number of a page
abbrev pub digits_at : List ℕ → Option ℕ → Option (List ℕ)
digits_at line None = None
digits_at line (Some i) = Some (drop (i + 1) line)

-- the digits of the page that an append keeps
abbrev pub digits_of : List ℕ → Option (List ℕ)
digits_of added =
    option_and_then (λ line. digits_at line (position (λ b. b == 32) line))
    (option_and_then (ahead (10 ∷ [])) (behind (codes "page ") (unmarked added)))
