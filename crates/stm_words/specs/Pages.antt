-- Pages as words name them: `N` is one page, and `N-M` those from one to another.
use Rattle.std.specs.Prelude.{◌≡◌, ◌⊎◌, ℕ, ◌+◌, ◌-◌, ◌≤◌, List, [], ◌∷◌, ◌++◌, Some}
use Rattle.std.specs.List.{range_with_len}
use Rattle.stm_words.specs.Number.{word_number}

-- the word is two words with `-` between them, which give these numbers
pub record IsRange (word : List ℕ) (first last : ℕ) : Type 0 where
  pub front : List ℕ
  pub back : List ℕ
  pub parted : word ≡ front ++ 45 ∷ back
  pub begins : word_number front ≡ Some first
  pub ends : word_number back ≡ Some last

-- the word names the pages from one to another
abbrev pub IsFromTo : List ℕ → ℕ → ℕ → Type 0
IsFromTo word first last =
    (((word_number word ≡ Some first) × (first ≡ last)) ⊎ IsRange word first last) × (first ≤ last)

-- the pages that a word names
pub record NamesPages (word pages : List ℕ) : Type 0 where
  pub first : ℕ
  pub last : ℕ
  pub is : IsFromTo word first last
  pub pages_are : pages ≡ range_with_len first (last + 1 - first)

-- the pages that words name, in their order
abbrev pub NameAll : List (List ℕ) → List ℕ → Type 0
NameAll [] pages = pages ≡ []
NameAll (word ∷ words) pages = (some : List ℕ) × (rest : List ℕ) × NamesPages word some
    × NameAll words rest × (pages ≡ some ++ rest)
