-- What the lines of a journal keep: the pages of each segment, with their bytes.
use Rattle.std.specs.Prelude.{◌≡◌, ◌⊎◌, ℕ, List, [], ◌∷◌, ◌++◌, drop}
use Rattle.stm_journal.specs.declared.entry.Entry.{Entry}
use Rattle.stm_journal.specs.declared.entry.Entry.TheVariants.{Names, Opens, Keeps, Erases}
use Rattle.stm_journal.specs.declared.entry.Entry.TheVariants.{Programs, Ends, Undoes}
use Rattle.stm_session.specs.Order.{Step, Adds, Sends}

-- a page as a line keeps it
pub record SavedPage : Type 0 where
  pub number : ℕ
  pub bytes : List ℕ

abbrev pub saved : ℕ → List ℕ → SavedPage
saved n bytes = record { number = n; bytes = bytes }

-- these pages have page n, with these bytes
abbrev pub HasPage : List SavedPage → ℕ → List ℕ → Type 0
HasPage [] n bytes = ⊥
HasPage (page ∷ pages) n bytes = (page ≡ saved n bytes) ⊎ HasPage pages n bytes

-- The pages of each segment, the newest segment first. The newest has one page more,
abbrev pub with_saved_page : SavedPage → List (List SavedPage) → List (List SavedPage)
with_saved_page page [] = []
with_saved_page page (pages ∷ below) = (pages ++ page ∷ []) ∷ below

-- as each line leaves them,
abbrev pub segments_behind : List (List SavedPage) → Entry → List (List SavedPage)
segments_behind segments (Names version id unique) = segments
segments_behind segments (Opens number) = [] ∷ segments
segments_behind segments (Keeps n bytes) = with_saved_page (saved n bytes) segments
segments_behind segments (Erases n) = segments
segments_behind segments (Programs n) = segments
segments_behind segments (Ends number) = segments
segments_behind segments (Undoes number) = drop 1 segments

-- behind lines,
abbrev pub segments_behind_lines : List (List SavedPage) → List Entry → List (List SavedPage)
segments_behind_lines segments [] = segments
segments_behind_lines segments (entry ∷ entries) =
    segments_behind_lines (segments_behind segments entry) entries

-- and behind steps.
abbrev pub segments_behind_steps : List (List SavedPage) → List Step → List (List SavedPage)
segments_behind_steps segments [] = segments
segments_behind_steps segments (Adds entries ∷ steps) =
    segments_behind_steps (segments_behind_lines segments entries) steps
segments_behind_steps segments (Sends turns ∷ steps) = segments_behind_steps segments steps

-- the newest segment keeps page n
abbrev pub IsNewest : ℕ → List (List SavedPage) → Type 0
IsNewest n [] = ⊥
IsNewest n (pages ∷ below) = (bytes : List ℕ) × HasPage pages n bytes

-- some segment keeps page n, with these bytes
abbrev pub SomeKeeps : ℕ → List ℕ → List (List SavedPage) → Type 0
SomeKeeps n bytes [] = ⊥
SomeKeeps n bytes (pages ∷ below) = HasPage pages n bytes ⊎ SomeKeeps n bytes below
