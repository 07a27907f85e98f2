-- How many bytes so many lines have, one line after the other.
use Rattle.std.proofs.Common.{◌≡◌, ◌≤◌, ◌<◌, ℕ, zero, suc, ◌+◌, ◌-◌, Bool, true, false, ◌==◌, nat_lt, if◌then◌else◌}
use Rattle.std.proofs.Common.{List, [], ◌∷◌, length, drop, get_or, Some, None, refl, sym, ◌∙◌, ap, arith, length-drop}
use Rattle.std.specs.List.{position, position_or_len}
use Rattle.std.proofs.lemmas.Bool.Decides.{nat_tests}
use Rattle.std.proofs.lemmas.List.{drop-drop}
use Rattle.std.proofs.lemmas.List.Sums.{fails_before_first}
use Rattle.std.proofs.lemmas.List.Quantifiers.{position-Some}
use Rattle.stm_disk.specs.UnsyncedEnd.{lines_size}

size-first : (xs : List ℕ) (n i : ℕ) → i < length xs → (get_or xs i 0 == 10) ≡ true
    → ((k : ℕ) → k < i → (get_or xs k 0 == 10) ≡ false)
    → lines_size (suc n) xs ≡ suc i + lines_size n (drop (suc i) xs)
size-first [] n i within lf never = absurd (omega (arith, within))
size-first (b ∷ xs) n zero within lf never = rw lf (omega arith)
size-first (b ∷ xs) n (suc i) within lf never =
    let other : (b == 10) ≡ false = never 0 (omega arith) in
    let more = size-first xs n i (omega (arith, within)) lf (λ k lt. never (suc k) (omega (arith, lt))) in
    rw other (omega (arith, more))

size-none : (xs : List ℕ) (n : ℕ) → ((k : ℕ) → k < length xs → (get_or xs k 0 == 10) ≡ false)
    → lines_size (suc n) xs ≡ length xs
size-none [] n never = refl
size-none (b ∷ xs) n never =
    let other : (b == 10) ≡ false = never 0 (omega arith) in
    let more = size-none xs n (λ k lt. never (suc k) (omega (arith, lt))) in
    rw other (omega (arith, more))

never-at : (xs : List ℕ) → position (λ b. b == 10) xs ≡ None
    → (k : ℕ) → k < length xs → (get_or xs k 0 == 10) ≡ false
never-at xs is k lt = fails_before_first (λ b. b == 10) xs k 0 (omega (arith, lt, far (position_or_len (λ b. b == 10) xs) (length xs) (at (nat_lt (position_or_len (λ b. b == 10) xs) (length xs)) is)))
  where
    clash : (n : ℕ) → Some n ≡ None → ⊥
    clash n h = cc

    at : (b : Bool) → (if b then Some (position_or_len (λ b. b == 10) xs) else None) ≡ None → b ≡ false
    at true h = absurd (clash (position_or_len (λ b. b == 10) xs) h)
    at false h = refl

    far : (a b : ℕ) → nat_lt a b ≡ false → b ≤ a
    far a b h = grind (arith, nat_tests)

-- one line more ends here
pub next_line : (bytes : List ℕ) (lines at left lf : ℕ) → 0 < left → at ≤ length bytes
    → at + lines_size left (drop at bytes) ≡ lines_size lines bytes
    → position (λ b. b == 10) (drop at bytes) ≡ Some lf
    → (at + (lf + 1) ≤ length bytes)
    × (at + (lf + 1) + lines_size (left - 1) (drop (at + (lf + 1)) bytes) ≡ lines_size lines bytes)
next_line bytes lines at left lf some within so_far is =
    let p = position-Some (λ b. b == 10) (drop at bytes) lf 0 is in
    let first = size-first (drop at bytes) (left - 1) lf p.0 p.1 p.2 in
    let e : suc (left - 1) ≡ left = omega (arith, some) in
    let e2 : suc lf ≡ lf + 1 = omega arith in
    let size : lines_size left (drop at bytes) ≡ suc lf + lines_size (left - 1) (drop (at + (lf + 1)) bytes) =
    ap (λ (n : ℕ). lines_size n (drop at bytes)) (sym e) ∙ first
    ∙ ap (λ (xs : List ℕ). suc lf + lines_size (left - 1) xs)
    (ap (λ (n : ℕ). drop n (drop at bytes)) e2 ∙ drop-drop (lf + 1) at bytes) in
    (omega (arith, p.0, within, length-drop at bytes), omega (arith, size, so_far))

-- there is none, so that all bytes are of those lines
pub no_line : (bytes : List ℕ) (lines at left : ℕ) → 0 < left → at ≤ length bytes
    → at + lines_size left (drop at bytes) ≡ lines_size lines bytes
    → position (λ b. b == 10) (drop at bytes) ≡ None → length bytes ≡ lines_size lines bytes
no_line bytes lines at left some within so_far is =
    let e : suc (left - 1) ≡ left = omega (arith, some) in
    let rest = size-none (drop at bytes) (left - 1) (never-at (drop at bytes) is) in
    let size : lines_size left (drop at bytes) ≡ length (drop at bytes) =
    ap (λ (n : ℕ). lines_size n (drop at bytes)) (sym e) ∙ rest in
    omega (arith, size, so_far, within, length-drop at bytes)
