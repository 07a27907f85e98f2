-- The journal's text: whole lines and a torn tail.
use Rattle.std.specs.Prelude.{◌≡◌, ℕ, Bool, false, ◌==◌, if◌then◌else◌, List, [], ◌∷◌, codes}
use Rattle.std.specs.List.{ends_with}

-- whole lines, without the LF that ends each, and the bytes after the last LF
pub record Text : Type 0 where
  pub lines : List (List ℕ)
  pub tail : List ℕ

-- one byte more in front, which is no LF
abbrev pub in_front : ℕ → Text → Text
in_front b t = elim t.lines as (λ _. Text) [
  | [] ↦ record { lines = []; tail = b ∷ t.tail }
  | l ∷ ls ↦ record { lines = (b ∷ l) ∷ ls; tail = t.tail }
]

-- a journal's bytes, parted into its whole lines and what stands behind the last LF
abbrev pub text_of : List ℕ → Text
text_of [] = record { lines = []; tail = [] }
text_of (b ∷ bs) =
    if b == 10 then record { lines = [] ∷ (text_of bs).lines; tail = (text_of bs).tail }
    else in_front b (text_of bs)

-- a line that ends with `!` counts as nothing
abbrev pub is_void : List ℕ → Bool
is_void line = ends_with (λ a b. a == b) line (codes "!")

-- no LF stands in it
abbrev pub HasNoLF : List ℕ → Type 0
HasNoLF [] = Unit {0}
HasNoLF (b ∷ bs) = ((b == 10) ≡ false) × HasNoLF bs
