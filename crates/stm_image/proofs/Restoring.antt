-- Pieces sorted back into the order in which they were added.
use Rattle.std.proofs.Common.{◌≡◌, ℕ, zero, suc, ◌+◌, ◌<◌, ◌≤◌, List, [], ◌∷◌, get_or, Bool, cond, nat_eq, sum_by, refl, sym, ap, ap₂, ◌∙◌, arith}
use Rattle.std.specs.Prelude.{Contains}
use Rattle.std.specs.List.Sorted.{IsPermutation, IsNonDecreasingBy}
use Rattle.std.proofs.lemmas.Bool.{ne_eqb, eq-eqb}
use Rattle.std.proofs.lemmas.List.Sums.{sum_by-cons}
use Rattle.std.proofs.lemmas.List.Sorted.{Contains-permutation, IsPermutation-sym, sum_by-IsPermutation}
use Rattle.stm_image.specs.Pieces.{piece_size, Stand}
use Rattle.stm_image.specs.declared.pieces.Piece.{Piece}
use Rattle.stm_image.proofs.Putting.{stands_from}

-- how many pieces have a place
at_place : ℕ → Piece → ℕ
at_place n p = cond (nat_eq p.place n) 1 0

count_at : ℕ → List Piece → ℕ
count_at n [] = 0
count_at n (p ∷ ps) = at_place n p + count_at n ps

one_at : (n : ℕ) (p : Piece) → p.place ≡ n → at_place n p ≡ 1
unfolding at_place
one_at n p is = ap (λ (t : Bool). cond t 1 0) (eq-eqb p.place n is)

none_at : (n : ℕ) (p : Piece) → (p.place ≡ n → ⊥) → at_place n p ≡ 0
unfolding at_place
none_at n p other = ap (λ (t : Bool). cond t 1 0) (ne_eqb p.place n other)

-- none has a place before all
none_before : (n from to : ℕ) (ps : List Piece) → Stand from to ps → n < from → count_at n ps ≡ 0
unfolding count_at
none_before n from to [] stand lt = refl
none_before n from to (p ∷ ps) stand lt =
    let at = stand.0 in
    let more = none_before n (from + piece_size p) to ps stand.3 (omega arith) in
    let here = none_at n p (λ e. omega (arith, e)) in
    omega arith

some_at : (ps : List Piece) (p : Piece) → Contains ps p → 0 < count_at p.place ps
unfolding count_at
some_at [] p held = absurd (omega (arith, held.1))
some_at (q ∷ ps) p (zero, lt, is) = let here = one_at p.place q (ap (λ (r : Piece). r.place) is) in omega arith
some_at (q ∷ ps) p (suc i, lt, is) = let more = some_at ps p (i, omega arith, is) in omega arith

-- the first place is the least
least_first : (p : Piece) (ps : List Piece) (q : Piece) → IsNonDecreasingBy (λ (r : Piece). r.place) (p ∷ ps) → Contains (p ∷ ps) q → p.place ≤ q.place
least_first p ps q order (i, lt, is) = let up = order 0 i q (omega arith) lt in let e : (get_or (p ∷ ps) i q).place ≡ q.place = ap (λ (r : Piece). r.place) is in omega arith

in_tail : (p q : Piece) (ps : List Piece) → (p ≡ q → ⊥) → Contains (p ∷ ps) q → Contains ps q
in_tail p q ps other (zero, lt, is) = absurd (other is)
in_tail p q ps other (suc i, lt, is) = (i, omega arith, is)

same_order : (from to : ℕ) (xs ys : List Piece) → Stand from to xs → IsNonDecreasingBy (λ (p : Piece). p.place) ys → ((n : ℕ) → count_at n ys ≡ count_at n xs) → ((p : Piece) → Contains ys p → Contains xs p)
    → ((p : Piece) → Contains xs p → Contains ys p) → ys ≡ xs
unfolding count_at
same_order from to [] [] stand order counts back on = refl
same_order from to [] (y ∷ ys) stand order counts back on = let none = back y (0, omega arith, refl) in absurd (omega (arith, none.1))
same_order from to (x ∷ xs) [] stand order counts back on = let none = on x (0, omega arith, refl) in absurd (omega (arith, none.1))
same_order from to (x ∷ xs) (y ∷ ys) stand order counts back on = go (λ o c b n. same_order (from + piece_size x) to xs ys stand.3 o c b n) (back y (0, omega arith, refl))
  where
    low : y.place ≤ from
    low = let least = least_first y ys x order (on x (0, omega arith, refl)) in let at = stand.0 in omega arith

    rest : (IsNonDecreasingBy (λ (p : Piece). p.place) ys → ((n : ℕ) → count_at n ys ≡ count_at n xs) → ((p : Piece) → Contains ys p → Contains xs p) → ((p : Piece) → Contains xs p → Contains ys p) → ys ≡ xs) → x ≡ y → y ∷ ys ≡ x ∷ xs
    rest again e =
        let same : x.place ≡ y.place = ap (λ (r : Piece). r.place) e in
        let at = stand.0 in
        let first_to_last = stand.1 in
        let later_x = none_before from (from + piece_size x) to xs stand.3 (omega arith) in
        let mine = one_at from x at in
        let yours = one_at from y (omega arith) in
        let all = counts from in
        let later_y : count_at from ys ≡ 0 = omega arith in
        ap₂ (λ (r : Piece) (rs : List Piece). r ∷ rs) (sym e) (again (λ i j d le lt. order (suc i) (suc j) d (omega arith) (omega arith))
        (λ n. let both = counts n in let heads : at_place n y ≡ at_place n x = ap (at_place n) (sym e) in omega arith)
        (λ p held. in_tail x p xs (λ is. let there = some_at ys p held in let f : p.place ≡ from = sym (ap (λ (r : Piece). r.place) is) ∙ at in let none : count_at p.place ys ≡ 0 = ap (λ (n : ℕ). count_at n ys) f ∙ later_y in omega arith)
        (back p (suc held.0, omega (arith, held.1), held.2)))
        (λ p held. in_tail y p ys (λ is. let there = some_at xs p held in let f : p.place ≡ from = sym (ap (λ (r : Piece). r.place) is) ∙ sym same ∙ at in let none : count_at p.place xs ≡ 0 = ap (λ (n : ℕ). count_at n xs) f ∙ later_x in omega arith)
        (on p (suc held.0, omega (arith, held.1), held.2))))

    go : (IsNonDecreasingBy (λ (p : Piece). p.place) ys → ((n : ℕ) → count_at n ys ≡ count_at n xs) → ((p : Piece) → Contains ys p → Contains xs p) → ((p : Piece) → Contains xs p → Contains ys p) → ys ≡ xs) → Contains (x ∷ xs) y → y ∷ ys ≡ x ∷ xs
    go again (zero, lt, is) = rest again is
    go again (suc i, lt, is) =
        let up = stands_from (from + piece_size x) to xs y stand.3 (i, omega arith, is) in
        let order = stand.1 in
        let below = low in
        absurd (omega arith)

count_by_sum : (n : ℕ) (ps : List Piece) → count_at n ps ≡ sum_by (at_place n) ps
unfolding count_at
count_by_sum n [] = refl
count_by_sum n (p ∷ ps) = ap (λ (k : ℕ). at_place n p + k) (count_by_sum n ps) ∙ sym (sum_by-cons (at_place n) p ps)

-- pieces that stand are as they were, once they are moved and sorted by their places
pub sorted_back : (to : ℕ) (xs ys : List Piece) → Stand 0 to xs → IsPermutation xs ys → IsNonDecreasingBy (λ (p : Piece). p.place) ys → ys ≡ xs
sorted_back to xs ys stand moved order =
    same_order 0 to xs ys stand order (λ n. count_by_sum n ys ∙ sum_by-IsPermutation (at_place n) xs ys moved ∙ sym (count_by_sum n xs))
    (λ p. Contains-permutation ys xs p (IsPermutation-sym xs ys moved)) (λ p. Contains-permutation xs ys p moved)
