-- A summary decides whether its line is void.
use Rattle.std.proofs.Common.{◌≡◌, ℕ, suc, ◌-◌, Bool, true, false, ◌==◌, ◌&&◌, List, [], ◌∷◌, length, get_or, refl, sym, ◌∙◌, ap, arith}
use Rattle.std.proofs.lemmas.Bool.Decides.{nat_tests}
use Rattle.stm_journal.proofs.Names.{is_void, summary_of, void_by}

-- the last byte
abbrev last_of : List ℕ → ℕ
last_of xs = get_or xs (length xs - 1) 0

last-more : (x y : ℕ) (xs : List ℕ) → last_of (x ∷ y ∷ xs) ≡ last_of (y ∷ xs)
last-more x y xs = let e : length (x ∷ y ∷ xs) - 1 ≡ suc (length (y ∷ xs) - 1) = omega arith in rw e refl

void-more : (x y : ℕ) (xs : List ℕ) → is_void (x ∷ y ∷ xs) ≡ is_void (y ∷ xs)
void-more x y xs = let e : length (x ∷ y ∷ xs) - 1 ≡ suc (length (y ∷ xs) - 1) = omega arith in rw e refl

void-one : (x : ℕ) → is_void (x ∷ []) ≡ (x == 33)
void-one x = at (33 == x) (x == 33) (grind (arith, nat_tests))
  where
    at : (a b : Bool) → a ≡ b → (a && true) ≡ b
    at true b e = e
    at false b e = e

pub void_by-line : (line : List ℕ) → is_void line ≡ void_by (summary_of line)
void_by-line [] = refl
void_by-line (x ∷ []) = void-one x
void_by-line (x ∷ y ∷ xs) = void-more x y xs ∙ void_by-line (y ∷ xs) ∙ sym (ap (λ (b : ℕ). b == 33) (last-more x y xs))
