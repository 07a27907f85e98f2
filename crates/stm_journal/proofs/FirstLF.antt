-- Where the first LF of bytes stands.
use Rattle.std.proofs.Common.{◌≡◌, ◌≤◌, ◌<◌, ℕ, zero, suc, ◌+◌, ◌-◌, Bool, true, false, ◌==◌, nat_lt, if◌then◌else◌, List, [], ◌∷◌, ◌++◌, length, take, drop, get_or, Some, None, refl, sym, ◌∙◌, ap, arith, append_assoc, take_all, length-drop}
use Rattle.std.specs.List.{position, position_or_len}
use Rattle.std.proofs.lemmas.Bool.Decides.{nat_tests}
use Rattle.std.proofs.lemmas.List.{take_more}
use Rattle.std.proofs.lemmas.List.Sums.{fails_before_first}
use Rattle.std.proofs.lemmas.List.Quantifiers.{position-Some}
use Rattle.stm_journal.proofs.Names.{HasNoLF}

none-at : (xs : List ℕ) → ((k : ℕ) → k < length xs → (get_or xs k 0 == 10) ≡ false) → HasNoLF xs
none-at [] never = tt
none-at (x ∷ xs) never = (never 0 (omega arith), none-at xs (λ k lt. never (suc k) (omega (arith, lt))))

none-before : (xs : List ℕ) (n : ℕ) → ((k : ℕ) → k < n → (get_or xs k 0 == 10) ≡ false) → HasNoLF (take n xs)
none-before xs zero never = tt
none-before [] (suc n) never = tt
none-before (x ∷ xs) (suc n) never = (never 0 (omega arith), none-before xs n (λ k lt. never (suc k) (omega (arith, lt))))

ten : (n : ℕ) → (n == 10) ≡ true → n ≡ 10
ten n h = grind (arith, nat_tests)

pub lf-none : (xs : List ℕ) → position (λ b. b == 10) xs ≡ None → HasNoLF xs
lf-none xs is = none-at xs (λ k lt. fails_before_first (λ b. b == 10) xs k 0 (omega (arith, lt, far (position_or_len (λ b. b == 10) xs) (length xs) (at (nat_lt (position_or_len (λ b. b == 10) xs) (length xs)) is))))
  where
    clash : (n : ℕ) → Some n ≡ None → ⊥
    clash n h = cc

    at : (b : Bool) → (if b then Some (position_or_len (λ b. b == 10) xs) else None) ≡ None → b ≡ false
    at true h = absurd (clash (position_or_len (λ b. b == 10) xs) h)
    at false h = refl

    far : (a b : ℕ) → nat_lt a b ≡ false → b ≤ a
    far a b h = grind (arith, nat_tests)

pub lf-at : (xs : List ℕ) (lf : ℕ) → position (λ b. b == 10) xs ≡ Some lf → (lf < length xs) × HasNoLF (take lf xs) × (take (lf + 1) xs ≡ take lf xs ++ 10 ∷ [])
lf-at xs lf is =
    let p = position-Some (λ b. b == 10) xs lf 0 is in
    (p.0, none-before xs lf p.2, take_more xs lf 0 p.0 ∙ ap (λ (n : ℕ). take lf xs ++ n ∷ []) (ten (get_or xs lf 0) p.1))

take-further : (at n : ℕ) (xs : List ℕ) → take at xs ++ take n (drop at xs) ≡ take (at + n) xs
take-further zero n xs = let e : 0 + n ≡ n = omega arith in ap (λ (k : ℕ). take k xs) (sym e)
take-further (suc at) n [] = nothing n ∙ sym (nothing (suc at + n))
  where
    nothing : (k : ℕ) → take k (let xs : List ℕ = [] in xs) ≡ []
    nothing zero = refl
    nothing (suc k) = refl
take-further (suc at) n (x ∷ xs) =
    let e : suc at + n ≡ suc (at + n) = omega arith in
    ap (λ (ys : List ℕ). x ∷ ys) (take-further at n xs) ∙ sym (ap (λ (k : ℕ). take k (x ∷ xs)) e)

-- the bytes done, the rest of a line and its LF
pub line-more : (bytes more : List ℕ) (done lf : ℕ) → position (λ b. b == 10) (drop done more) ≡ Some lf
    → (bytes ++ take done more) ++ (take lf (drop done more) ++ 10 ∷ []) ≡ bytes ++ take (done + (lf + 1)) more
line-more bytes more done lf is =
    ap (λ (xs : List ℕ). (bytes ++ take done more) ++ xs) (sym (lf-at (drop done more) lf is).2)
    ∙ append_assoc bytes (take done more) (take (lf + 1) (drop done more))
    ∙ ap (λ (xs : List ℕ). bytes ++ xs) (take-further done (lf + 1) more)

-- the same of slices, as the code has them
pub rest-is : (done : ℕ) (more : List ℕ) → take (length more - done) (drop done more) ≡ drop done more
rest-is done more = take_all (length more - done) (drop done more) (omega (arith, length-drop done more))

pub part-is : (done lf : ℕ) (more : List ℕ) → take ((done + lf) - done) (drop done more) ≡ take lf (drop done more)
part-is done lf more = let e : (done + lf) - done ≡ lf = omega arith in ap (λ (k : ℕ). take k (drop done more)) e
