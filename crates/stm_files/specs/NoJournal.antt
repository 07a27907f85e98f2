-- Which files are no journals, by how they begin.
use Rattle.std.specs.Prelude.{ℕ, ◌+◌, Bool, true, ◌&&◌, ◌||◌, not, ◌==◌, nat_le, nat_lt}
use Rattle.std.specs.Prelude.{if◌then◌else◌, List, [], ◌∷◌, codes, find, get_or, Option, None, Some}
use Rattle.std.specs.List.{list_all}
use Rattle.stm_journal.specs.Entries.{is_upper_digit}
use Rattle.stm_journal.specs.Text.{text_of, is_void}

-- a byte may have this place of a header: its word, the version, the device's id and, in version 3
-- alone, its unique id; the version is known behind its place
unfoldable pub has_place : ℕ → ℕ → ℕ → Bool
has_place version at b =
    if nat_lt at 11 then b == get_or (codes "stmjournal ") at 0
    else if nat_lt at 12 then nat_le 49 b && nat_le b 51
    else if nat_lt at 13 then b == 32
    else if nat_lt at 17 then is_upper_digit b
    else if nat_lt at 18 then version == 51 && b == 32
    else is_upper_digit b

-- the longest header has 82 bytes
abbrev pub may_stand : ℕ → ℕ → ℕ → Bool
may_stand version at b = nat_lt at 82 && has_place version at b

abbrev pub version_at : ℕ → ℕ → ℕ → ℕ
version_at version at b = if at == 11 then b else version

-- in which place the bytes end that go on as a header does, where they begin in this one
abbrev pub follows_to : ℕ → ℕ → List ℕ → ℕ
follows_to version at [] = at
follows_to version at (b ∷ line) =
    if may_stand version at b then follows_to (version_at version at b) (at + 1) line else at

-- a line with the word of a header, which may be a bad one
abbrev pub has_word : List ℕ → Bool
has_word line = nat_le 11 (follows_to 0 0 line)

-- what stands where an append was stopped that was never on the disk, and what later ones put behind
abbrev pub is_filling : ℕ → Bool
is_filling b = b == 0 || b == 33

abbrev pub is_torn_from : ℕ → ℕ → List ℕ → Bool
is_torn_from version at [] = true
is_torn_from version at (b ∷ line) =
    if may_stand version at b then is_torn_from (version_at version at b) (at + 1) line
    else list_all is_filling (b ∷ line)

-- What stopped appends of a header leave of a line: a beginning of it, which may be nothing, and then
-- NUL and `!` alone.
abbrev pub is_torn : List ℕ → Bool
is_torn line = is_torn_from 0 0 line

-- by the first line that isn't void, where there is one; else by whether the rest may be a beginning
abbrev pub is_other : Option (List ℕ) → Bool → Bool
is_other (Some line) is_begun = not (has_word line)
is_other None is_begun = not is_begun

-- A file is no journal where its first line that isn't void has no header's word; or where it has no
-- such line, and not all lines and what stands behind them is what stopped appends of a header leave.
abbrev pub is_no_journal : List ℕ → Bool
is_no_journal bytes =
    is_other (find (λ line. not (is_void line)) (text_of bytes).lines)
    (list_all is_torn (text_of bytes).lines && is_torn (text_of bytes).tail)
