-- What decides a line when it ends, without the line: its first bytes, how many it has, whether all
-- behind the first are upper-case digits, and its last byte.
use Rattle.std.specs.Prelude.{◌≡◌, ℕ, ◌+◌, ◌-◌, ◌/◌, ◌%◌, Bool, ◌&&◌, ◌==◌, nat_le, if◌then◌else◌}
use Rattle.std.specs.Prelude.{List, ◌∷◌, ◌++◌, length, take, drop, get_or, codes, Option, Some}
use Rattle.std.specs.Prelude.{None, option_map, position, bytes_eq}
use Rattle.std.specs.List.{list_all}
use Rattle.stm_journal.specs.declared.entry.Entry.{Entry}
use Rattle.stm_journal.specs.declared.entry.Entry.TheVariants.{Keeps}
use Rattle.stm_journal.specs.Text.{is_void}
use Rattle.stm_journal.specs.Greetings.{greeting}
use Rattle.stm_journal.specs.Entries.{is_upper_digit, decimal_of, behind, entry_of}
use Rattle.stm_journal.specs.Blank.{blank}
use Rattle.stm_journal.specs.InMemory.{forget_entry}

-- a line so far; no line but a page's has more than 82 bytes
pub record Summary : Type 0 where
  pub prefix : List ℕ
  pub size : ℕ
  pub is_upper : Bool
  pub last : ℕ

abbrev pub summary_of : List ℕ → Summary
summary_of line = record {
  prefix = take 82 line;
  size = length line;
  is_upper = list_all is_upper_digit (drop 82 line);
  last = get_or line (length line - 1) 0;
}

-- the summary after bytes more, which are some
abbrev pub extended : List ℕ → Summary → Summary
extended more s =
    record {
      prefix = s.prefix ++ take (82 - length s.prefix) more;
      size = s.size + length more;
      is_upper = s.is_upper && list_all is_upper_digit (drop (82 - length s.prefix) more);
      last = get_or more (length more - 1) 0;
    }

-- a page of so many digits, two a byte, at least one byte
abbrev pub page_with : Option ℕ → ℕ → Option Entry
page_with None digits = None
page_with (Some n) digits = if digits % 2 == 0 then Some (Keeps n (blank (digits / 2))) else None

-- a page whose line goes on behind these bytes, with so many upper-case digits
abbrev pub long_at : List ℕ → ℕ → Option ℕ → Option Entry
long_at rest more None = None
long_at rest more (Some i) =
    if list_all is_upper_digit (drop (i + 1) rest)
    then page_with (decimal_of (take i rest)) (length (drop (i + 1) rest) + more) else None

abbrev pub long_page : List ℕ → ℕ → Option Entry
long_page prefix more =
    elim (behind (codes "page ") prefix) as (λ _.
    Option Entry) [ None ↦ None | Some rest ↦ long_at rest more (position (λ b. b == 32) rest) ]

-- whether the line is void, and what it says, of a page how many bytes
abbrev pub void_by : Summary → Bool
void_by s = s.last == 33

-- whether it is a greeting
abbrev pub greets_by : Summary → Bool
greets_by s = bytes_eq s.prefix greeting

abbrev pub said_by : Summary → Option Entry
said_by s =
    if nat_le s.size 82 then option_map forget_entry (entry_of s.prefix)
    else if s.is_upper then long_page s.prefix (s.size - 82) else None

-- the summary decides the line
abbrev pub SummaryDecides : Type 0
SummaryDecides = (line : List ℕ) → (is_void line ≡ void_by (summary_of line))
    × ((option_map forget_entry (entry_of line) ≡ said_by (summary_of line))
    × (bytes_eq line greeting ≡ greets_by (summary_of line)))

-- the summary of a line that goes on needs nothing but that of its beginning
abbrev pub SummaryGoesOn : Type 0
SummaryGoesOn = (line : List ℕ) (b : ℕ) (more : List ℕ)
    → summary_of (line ++ b ∷ more) ≡ extended (b ∷ more) (summary_of line)
