-- The number that four upper-case digits say.
use Rattle.std.proofs.Common.{◌≡◌, ◌≢◌, inl, inr, ℕ, ◌%◌, true, false, ◌==◌, List, [], ◌∷◌, length, Option, Some, None, Result, Ok, Err, refl, sym, ◌∙◌, ap, subst, arith, take_all}
use Rattle.std.specs.Prelude.{option_and_then, MatchResult}
use Rattle.std.specs.List.{list_all}
use Rattle.std.proofs.lemmas.Bool.{cases_Bool, cases_eq}
use Rattle.std.proofs.lemmas.Bool.Decides.{nat_tests}
use Rattle.hex.specs.declared.error.FromHexError.{FromHexError}
use Rattle.hex.specs.Hex.{decode_sized}
use Rattle.stm_journal.proofs.Names.{hex_bytes_of, is_upper_digit, number_of_pair}
use Rattle.stm_journal.proofs.Upper.{hex_bytes_of-even, hex_bytes_of-odd}
use Rattle.stm_journal.proofs.Piecing.{pieces-say}

is-even : (m : ℕ) → (m % 2 == 0) ≡ true → m % 2 ≡ 0
is-even m h = grind (arith, nat_tests)

is-odd : (m : ℕ) → (m % 2 == 0) ≡ false → m % 2 ≡ 1
is-odd m h = let z : m % 2 ≢ 0 = grind (arith, nat_tests) in omega (arith, z)

not-pair : (bytes : List ℕ) → length bytes ≢ 2 → number_of_pair bytes ≡ None
not-pair [] other = refl
not-pair (a ∷ []) other = refl
not-pair (a ∷ b ∷ []) other = absurd (other refl)
not-pair (a ∷ b ∷ c ∷ bytes) other = refl

empty-none : (ds : List ℕ) → length ds ≡ 0 → option_and_then number_of_pair (hex_bytes_of ds) ≡ None
empty-none [] e = refl
empty-none (d ∷ ds) e = absurd (omega (arith, e))

-- four digits, decoded as two bytes
four : (ds : List ℕ) → list_all is_upper_digit ds ≡ true → length ds ≡ 4 → (bytes : List ℕ) × (hex_bytes_of ds ≡ Some bytes) × (decode_sized ds 2 ≡ Ok bytes)
four ds all size =
    let b = hex_bytes_of-even ds (omega (arith, size)) (omega (arith, size)) all in
    let two : length b.0 ≡ 2 = omega (arith, b.2, size) in
    let piece = pieces-say ds b.0 0 2 b.1 (omega (arith, two)) in
    (b.0, b.1, ap (λ (xs : List ℕ). decode_sized xs 2) (sym (take_all 4 ds (omega (arith, size)))) ∙ piece.1 ∙ ap (λ (xs : List ℕ). Ok xs) (take_all 2 b.0 (omega (arith, two))))

-- any other number of digits says no such number, and isn't decoded so
other-none : (ds : List ℕ) → list_all is_upper_digit ds ≡ true → length ds ≢ 4 → option_and_then number_of_pair (hex_bytes_of ds) ≡ None
other-none ds all other = elim (cases_Bool (length ds % 2 == 0)) [
  | inl even ↦ elim (cases_eq (length ds) 0) [
    | inl none ↦ empty-none ds none
    | inr some ↦
        let b = hex_bytes_of-even ds (omega (arith, some)) (is-even (length ds) even) all in
        ap (λ (o : Option (List ℕ)). option_and_then number_of_pair o) b.1 ∙ not-pair b.0 (λ e. other (omega (arith, e, b.2, is-even (length ds) even)))
  ]
  | inr odd ↦ ap (λ (o : Option (List ℕ)). option_and_then number_of_pair o) (hex_bytes_of-odd ds (is-odd (length ds) odd))
]

abbrev Decoded : List ℕ → List ℕ → Result (Unit {0}) FromHexError → Type 0
Decoded ds pair r = MatchResult (decode_sized ds 2) (λ bytes. (r ≡ Ok tt) × (pair ≡ bytes)) (λ e. r ≡ Err e)

pub id-refused : (ds pair : List ℕ) (r : Result (Unit {0}) FromHexError) (e : FromHexError) → list_all is_upper_digit ds ≡ true → Decoded ds pair r → r ≡ Err e
    → None ≡ option_and_then number_of_pair (hex_bytes_of ds)
id-refused ds pair r e all decoded err = elim (cases_eq (length ds) 4) [
  | inl size ↦
      let f = four ds all size in
      let M : Result (List ℕ) FromHexError → Type 0 = λ x. MatchResult x (λ bytes. (r ≡ Ok tt) × (pair ≡ bytes)) (λ e. r ≡ Err e) in
      let is = subst M f.2 decoded in
      absurd (clash r e err is.0)
  | inr other ↦ sym (other-none ds all other)
]
  where
    clash : (r : Result (Unit {0}) FromHexError) (e : FromHexError) → r ≡ Err e → r ≡ Ok tt → ⊥
    clash r e h g = cc
