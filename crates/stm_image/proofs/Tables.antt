-- Digits read by a table, and what they decode to.
use Rattle.std.proofs.Common.{◌≡◌, ℕ, suc, ◌+◌, ◌*◌, ◌<◌, ◌≤◌, Bool, true, false, List, [], ◌∷◌, length, take, slice_index, set, Option, Some, None, Ok, Err, Result, refl, sym, ap, ◌∙◌, subst, inl, inr, arith}
use Rattle.std.specs.Prelude.{MatchBool, MatchResult, IsTrue, ◌↔◌}
use Rattle.std.specs.Bool.{OnTrue}
use Rattle.std.specs.List.{prefix_len}
use Rattle.std.specs.Result.{result_unwrap_or, is_ok}
use Rattle.std.proofs.lemmas.Bool.{cases_lt}
use Rattle.std.proofs.lemmas.Bool.Decides.{nat_tests}
use Rattle.std.proofs.lemmas.Grind.{common_steps}
use Rattle.hex.specs.Hex.{hex_digit_value, is_hex_digit, decode_pairs, decode_of, decode_sized}
use Rattle.hex.specs.declared.error.FromHexError.{FromHexError}
use Rattle.hex.proofs.HexLemmas.{decode_sized-twice, decode_of-even, IsOk-decode_sized}
use Rattle.stm_image.specs.Digits.{table_value, IsPair, HasOther}
use Rattle.stm_image.specs.Record.{digits_bytes}
use Rattle.stm_image.proofs.Digits.{decodes}

-- a digit's value is below 16
pub small : (c v : ℕ) → hex_digit_value c ≡ Some v → v < 16
small c v e = grind (arith, nat_tests)

-- what the table tells of a byte
pub table_small : (c : ℕ) (o : Option ℕ) → hex_digit_value c ≡ o → table_value o ≤ 15 → o ≡ Some (table_value o)
table_small c (Some v) e le = refl
table_small c None e le = absurd (omega arith)

pub table_large : (c : ℕ) (o : Option ℕ) → hex_digit_value c ≡ o → 15 < table_value o → is_hex_digit c ≡ false
table_large c (Some v) e lt = let low = small c v e in absurd (omega arith)
table_large c None e lt = rw e refl

-- what `hex` reads after a nought
pub value_read : (b : ℕ) (o : Option ℕ) → hex_digit_value b ≡ o → (r : Result (Unit {0}) FromHexError) (out : List ℕ)
    → MatchResult (decode_sized (48 ∷ b ∷ []) 1) (λ bytes. (r ≡ Ok tt) × (out ≡ bytes)) (λ e. r ≡ Err e)
    → (is_ok r ≡ true → slice_index out 0 ≡ table_value o) × (is_ok r ≡ false → 255 ≡ table_value o)
unfolding decode_pairs
value_read b (Some v) e r out h =
    let both = rw e at h in
    let value : 0 * 16 + v ≡ v = omega arith in
    (λ t. ap (λ xs. slice_index xs 0) both.1 ∙ value, λ f. let t : true ≡ false = sym (ap is_ok both.0) ∙ f in cc)
value_read b None e r out h =
    let failed = rw e at h in
    (λ t. let f : false ≡ true = sym (ap is_ok failed) ∙ t in cc, λ f. refl)

-- pairs of digits decode to their bytes
pub pairs_decode : (i : ℕ) (digits out : List ℕ) → length digits ≡ 2 * length out → ((k : ℕ) → k < length out → IsPair (slice_index digits (2 * k)) (slice_index digits (2 * k + 1)) (slice_index out k)) → decode_pairs i digits ≡ Ok out
unfolding decode_pairs
pairs_decode i [] [] twice pairs = refl
pairs_decode i [] (x ∷ out) twice pairs = absurd (omega arith)
pairs_decode i (a ∷ digits) [] twice pairs = absurd (omega arith)
pairs_decode i (a ∷ []) (x ∷ out) twice pairs = absurd (omega arith)
pairs_decode i (a ∷ b ∷ digits) (x ∷ out) twice pairs =
    let p = pairs 0 (omega arith) in
    let later = pairs_decode (i + 2) digits out (omega arith) (λ k lt. step k lt) in
    rw (p.first_is, p.second_is, later) (ap (λ y. Ok (y ∷ out)) (sym p.is))
  where
    step : (k : ℕ) → k < length out → IsPair (slice_index digits (2 * k)) (slice_index digits (2 * k + 1)) (slice_index out k)
    step k lt =
        let even : 2 * suc k ≡ suc (suc (2 * k)) = omega arith in
        let odd : 2 * suc k + 1 ≡ suc (suc (2 * k + 1)) = omega arith in
        let E : ℕ → Type 0 = λ n. IsPair (slice_index (a ∷ b ∷ digits) n) (slice_index (a ∷ b ∷ digits) (2 * suc k + 1)) (slice_index out k) in
        let O : ℕ → Type 0 = λ n. IsPair (slice_index digits (2 * k)) (slice_index (a ∷ b ∷ digits) n) (slice_index out k) in
        subst O odd (subst E even (pairs (suc k) (omega arith)))

pub all_decode : (digits out : List ℕ) → length digits ≡ 2 * length out → ((k : ℕ) → k < length out → IsPair (slice_index digits (2 * k)) (slice_index digits (2 * k + 1)) (slice_index out k)) → decode_of digits ≡ Ok out
all_decode digits out twice pairs = decode_of-even digits (omega arith) ∙ pairs_decode 0 digits out twice pairs

-- one pair more
pub more_pairs : (digits out : List ℕ) (i byte : ℕ) → i < length out → ((k : ℕ) → k < i → IsPair (slice_index digits (2 * k)) (slice_index digits (2 * k + 1)) (slice_index out k))
    → IsPair (slice_index digits (2 * i)) (slice_index digits (2 * i + 1)) byte → (k : ℕ) → k < i + 1 → IsPair (slice_index digits (2 * k)) (slice_index digits (2 * k + 1)) (slice_index (set out i byte) k)
more_pairs digits out i byte lt pairs here k below = elim (cases_lt k i) [
  | inl before ↦
      let kept : slice_index (set out i byte) k ≡ slice_index out k = grind (arith, common_steps) in
      let P : ℕ → Type 0 = λ b. IsPair (slice_index digits (2 * k)) (slice_index digits (2 * k + 1)) b in
      subst P (sym kept) (pairs k before)
  | inr after ↦
      let at : i ≡ k = omega arith in
      let own : slice_index (set out i byte) i ≡ byte = grind (arith, common_steps) in
      let P : ℕ → Type 0 = λ b. IsPair (slice_index digits (2 * i)) (slice_index digits (2 * i + 1)) b in
      let K : ℕ → Type 0 = λ n. IsPair (slice_index digits (2 * n)) (slice_index digits (2 * n + 1)) (slice_index (set out i byte) n) in
      subst K at (subst P (sym own) here)
]

-- decoding the front of a text succeeds exactly where its digits suffice, and gives their bytes
pub front_decoded : (r : Bool) (text : List ℕ) (n : ℕ) (digits out : List ℕ) → 2 * n ≤ length text → digits ≡ take (2 * n) text → MatchBool r (decode_of digits ≡ Ok out) (HasOther digits)
    → (IsTrue r ↔ (2 * n ≤ prefix_len is_hex_digit text)) × OnTrue r (out ≡ digits_bytes (take (2 * n) text))
front_decoded true text n digits out within is ok =
    let front = take (2 * n) text in
    let long : length front ≡ 2 * n = grind (arith, common_steps) in
    let here : decode_of front ≡ Ok out = ap decode_of (sym is) ∙ ok in
    let sized : decode_sized front n ≡ Ok out = decode_sized-twice front n long ∙ here in
    ((λ t. (decodes text n within).0 (ap is_ok sized), λ enough. refl), sym (ap (λ d. result_unwrap_or d []) here))
front_decoded false text n digits out within is other =
    ((λ t. cc, λ enough. absurd (none enough)), tt)
  where
    none : 2 * n ≤ prefix_len is_hex_digit text → ⊥
    none enough =
        let parts = (IsOk-decode_sized (take (2 * n) text) n).0 ((decodes text n within).1 enough) in
        let there = rw is at other in
        let digit : is_hex_digit (slice_index (take (2 * n) text) there.place) ≡ true = parts.1 there.place 0 there.within in
        let both : true ≡ false = sym digit ∙ there.other in
        cc
