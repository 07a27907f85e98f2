-- What fetches brought, and that upper-case digits are the ones of the bytes that they say.
use Rattle.std.proofs.Common.{◌≡◌, ◌≤◌, ◌<◌, ℕ, zero, suc, ◌+◌, ◌*◌, ◌/◌, ◌%◌, Bool, true, false, ◌==◌, ◌&&◌, nat_lt, if◌then◌else◌, List, [], ◌∷◌, ◌++◌, length, slice_index, Option, Some, None, Result, Ok, Err, is_ok, MatchResult, refl, sym, ◌∙◌, ap, subst, arith, append_assoc, append-nil, eq-or-lt_of_le, ⊎_elim}
use Rattle.std.specs.List.{list_all}
use Rattle.std.proofs.lemmas.Bool.{true≢false}
use Rattle.std.proofs.lemmas.Bool.Decides.{nat_tests}
use Rattle.hex.specs.declared.error.FromHexError.{FromHexError}
use Rattle.hex.specs.Hex.{decode_sized, encode_upper, encode_with, upper_digits}
use Rattle.hex.proofs.HexLemmas.{decode_sized-ok}
use Rattle.stm_journal.proofs.Names.{Brings, is_upper_digit}
use Rattle.stm_journal.proofs.Upper.{first-true, second-true}
use Rattle.stm_journal.proofs.Piecing.{digit_of, bytes_of, decode-all, sized}

pub brings-none : (a : Option (List ℕ)) → Brings [] a a
brings-none None = refl
brings-none (Some past) = ap (λ (xs : List ℕ). Some xs) (sym (append-nil past))

pub brings-more : (xs ys zs : List ℕ) (a b c : Option (List ℕ)) → zs ≡ xs ++ ys → Brings xs a b → Brings ys b c → Brings zs a c
brings-more xs ys zs None b c e first second =
    let B : Option (List ℕ) → Type 0 = λ o. Brings ys o c in
    subst B first second
brings-more xs ys zs (Some past) b c e first second =
    let B : Option (List ℕ) → Type 0 = λ o. Brings ys o c in
    subst B first second ∙ ap (λ (more : List ℕ). Some more) (append_assoc past xs ys ∙ ap (λ (more : List ℕ). past ++ more) (sym e))

pub brings-same : (xs ys : List ℕ) (a b : Option (List ℕ)) → xs ≡ ys → Brings xs a b → Brings ys a b
brings-same xs ys a b e brings = let B : List ℕ → Type 0 = λ zs. Brings zs a b in subst B e brings

pub encode-append : (xs ys : List ℕ) → encode_upper (xs ++ ys) ≡ encode_upper xs ++ encode_upper ys
unfolding encode_with
encode-append [] ys = refl
encode-append (x ∷ xs) ys = ap (λ (more : List ℕ). slice_index upper_digits (x / 16) ∷ slice_index upper_digits (x % 16) ∷ more) (encode-append xs ys)

-- this digit stands in the table at its value
abbrev stands : ℕ → Bool
stands c = nat_lt (digit_of c) 16 && (slice_index upper_digits (digit_of c) == c)

abbrev all_stand_below : ℕ → Bool
all_stand_below zero = true
all_stand_below (suc k) = (if is_upper_digit k then stands k else true) && all_stand_below k

chosen : (a b : Bool) → a ≡ true → (if a then b else true) ≡ true → b ≡ true
chosen true b e h = h
chosen false b e h = absurd (true≢false (sym e))

stands_below : (n c : ℕ) → all_stand_below n ≡ true → c < n → is_upper_digit c ≡ true → stands c ≡ true
stands_below zero c all lt is = absurd (omega arith)
stands_below (suc n) c all lt is =
    let within : c ≤ n = omega arith in
    let first : Bool = if is_upper_digit n then stands n else true in
    let P : ℕ → Type 0 = λ k. (if is_upper_digit k then stands k else true) ≡ true in
    ⊎_elim
    (λ same. chosen (is_upper_digit c) (stands c) is (subst P (sym same) (first-true first (all_stand_below n) all)))
    (λ less. stands_below n c (second-true first (all_stand_below n) all) less is)
    (eq-or-lt_of_le within)

upper-below : (c : ℕ) → is_upper_digit c ≡ true → c < 71
upper-below c is = grind (arith, nat_tests)

lt-of : (a b : ℕ) → nat_lt a b ≡ true → a < b
lt-of a b h = grind (arith, nat_tests)

eq-of : (a b : ℕ) → (a == b) ≡ true → a ≡ b
eq-of a b h = grind (arith, nat_tests)

upper-stands : (c : ℕ) → is_upper_digit c ≡ true → stands c ≡ true
upper-stands c is = stands_below 71 c refl (upper-below c is) is

value-small : (c : ℕ) → is_upper_digit c ≡ true → digit_of c < 16
value-small c is = lt-of (digit_of c) 16 (first-true (nat_lt (digit_of c) 16) (slice_index upper_digits (digit_of c) == c) (upper-stands c is))

value-again : (c : ℕ) → is_upper_digit c ≡ true → slice_index upper_digits (digit_of c) ≡ c
value-again c is = eq-of (slice_index upper_digits (digit_of c)) c (second-true (nat_lt (digit_of c) 16) (slice_index upper_digits (digit_of c) == c) (upper-stands c is))

high-half : (v w : ℕ) → w < 16 → (v * 16 + w) / 16 ≡ v
high-half v w lt = omega arith

low-half : (v w : ℕ) → w < 16 → (v * 16 + w) % 16 ≡ w
low-half v w lt = omega arith

pairs-again : (n : ℕ) (ds : List ℕ) → length ds ≡ 2 * n → list_all is_upper_digit ds ≡ true → encode_upper (bytes_of ds) ≡ ds
unfolding encode_with
pairs-again n [] e all = refl
pairs-again n (a ∷ []) e all = absurd (omega (arith, e))
pairs-again zero (a ∷ b ∷ ds) e all = absurd (omega (arith, e))
pairs-again (suc n) (a ∷ b ∷ ds) e all =
    let behind-a = second-true (is_upper_digit a) (is_upper_digit b && list_all is_upper_digit ds) all in
    let is_a = first-true (is_upper_digit a) (is_upper_digit b && list_all is_upper_digit ds) all in
    let is_b = first-true (is_upper_digit b) (list_all is_upper_digit ds) behind-a in
    let v = digit_of a in
    let w = digit_of b in
    let small = value-small b is_b in
    let high : slice_index upper_digits ((v * 16 + w) / 16) ≡ a = ap (λ (k : ℕ). slice_index upper_digits k) (high-half v w small) ∙ value-again a is_a in
    let low : slice_index upper_digits ((v * 16 + w) % 16) ≡ b = ap (λ (k : ℕ). slice_index upper_digits k) (low-half v w small) ∙ value-again b is_b in
    let rest = pairs-again n ds (omega (arith, e)) (second-true (is_upper_digit b) (list_all is_upper_digit ds) behind-a) in
    ap (λ (x : ℕ). x ∷ slice_index upper_digits ((v * 16 + w) % 16) ∷ encode_upper (bytes_of ds)) high
    ∙ ap (λ (x : ℕ). a ∷ x ∷ encode_upper (bytes_of ds)) low
    ∙ ap (λ (xs : List ℕ). a ∷ b ∷ xs) rest

-- upper-case digits that say bytes are the ones that bytes are printed with
pub digits-again : (ds : List ℕ) (n : ℕ) (bytes : List ℕ) → list_all is_upper_digit ds ≡ true → decode_sized ds n ≡ Ok bytes → ds ≡ encode_upper bytes
digits-again ds n bytes all is =
    let size = decode_sized-ok ds n bytes is in
    let decoded : decode_sized ds n ≡ Ok (bytes_of ds) = sized ds n size ∙ decode-all 0 n ds size all in
    let same : bytes_of ds ≡ bytes = the-same (bytes_of ds) bytes (decode_sized ds n) decoded is in
    sym (pairs-again n ds size all) ∙ ap (λ (xs : List ℕ). encode_upper xs) same
  where
    the-same : (xs ys : List ℕ) (r : Result (List ℕ) FromHexError) → r ≡ Ok xs → r ≡ Ok ys → xs ≡ ys
    the-same xs ys r g h = cc

pub decoded-again : (ds : List ℕ) (n : ℕ) (out : List ℕ) (r : Result (Unit {0}) FromHexError) (d : Result (List ℕ) FromHexError) → list_all is_upper_digit ds ≡ true
    → decode_sized ds n ≡ d → MatchResult d (λ bytes. (r ≡ Ok tt) × (out ≡ bytes)) (λ e. r ≡ Err e) → is_ok r ≡ true → ds ≡ encode_upper out
decoded-again ds n out r (Ok bytes) all is written ok = digits-again ds n bytes all is ∙ ap (λ (xs : List ℕ). encode_upper xs) (sym written.1)
decoded-again ds n out r (Err e) all is written ok =
    let P : Result (Unit {0}) FromHexError → Type 0 = λ x. is_ok x ≡ true in
    absurd (true≢false (sym (subst P written ok)))

pub encode-none : encode_upper [] ≡ []
unfolding encode_with
encode-none = refl
