-- The marks of the pages that a segment keeps.
use Rattle.std.specs.Prelude.{◌≡◌, ℕ, ◌<◌, ◌==◌, Bool, false, List, length, get_or}
use Rattle.std.specs.List.{list_any}
use Rattle.stm_journal.specs.declared.kept.Kept.{Kept}

-- so far as there are marks, each tells whether the page of its number is kept
abbrev pub AreMarked : List Bool → List Kept → Type 0
AreMarked marks pages = (n : ℕ) → n < length marks
    → get_or marks n false ≡ list_any (λ k. k.page == n) pages
