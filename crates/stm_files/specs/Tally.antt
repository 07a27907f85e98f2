-- How many lines a text has, how many of them are void, and how much stands behind the last.
use Rattle.std.specs.Prelude.{◌≡◌, ℕ, ◌+◌, ◌≤◌, List, count_by, length}
use Rattle.stm_journal.specs.Text.{text_of, is_void}
use Rattle.stm_files.specs.declared.tally.Tally.{Tally}

pub record IsTallyOf (bytes : List ℕ) (t : Tally) : Type 0 where
  pub lines : t.lines ≡ length (text_of bytes).lines
  pub voids : t.voids ≡ count_by is_void (text_of bytes).lines
  pub tail : t.tail ≡ length (text_of bytes).tail
  -- a tail that ends so would be a void line
  pub is_marked : t.is_marked ≡ is_void (text_of bytes).tail
  pub within : t.lines + t.tail ≤ length bytes
  pub few : t.voids ≤ t.lines
