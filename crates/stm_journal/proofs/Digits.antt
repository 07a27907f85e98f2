-- Printed digits: which bytes they are, and that they read back.
use Rattle.std.proofs.Common.{◌≡◌, ◌≤◌, ◌<◌, ℕ, zero, suc, ◌+◌, ◌/◌, ◌%◌, Bool, true, false, not, ◌==◌, ◌&&◌, nat_lt, if◌then◌else◌, cond, List, [], ◌∷◌, ◌++◌, length, slice_index, Some, None, decimal, refl, sym, ◌∙◌, ap, arith, eq-or-lt_of_le, ⊎_elim, length-append}
use Rattle.std.specs.Prelude.{position}
use Rattle.std.specs.List.{list_all, position_or_len}
use Rattle.std.specs.Result.{result_ok}
use Rattle.std.proofs.lemmas.Bool.{true≢false, lt-ltb}
use Rattle.std.proofs.lemmas.Bool.Decides.{nat_tests}
use Rattle.std.proofs.lemmas.List.Folds.{list_all-append}
use Rattle.std.proofs.lemmas.Fmt.{decimal_by_steps}
use Rattle.hex.specs.Hex.{encode_upper, encode_with, upper_digits, decode_of, IsBytes}
use Rattle.hex.proofs.HexLemmas.{length-encode_with, decode_of-encode_upper}
use Rattle.stm_journal.proofs.Names.{are_upper_digits, HasNoLF, hex_bytes_of, is_upper_digit}

both : (a b : Bool) → a ≡ true → b ≡ true → (a && b) ≡ true
both true b h g = g
both false b h g = h

first-true : (a b : Bool) → (a && b) ≡ true → a ≡ true
first-true true b e = refl
first-true false b e = e

second-true : (a b : Bool) → (a && b) ≡ true → b ≡ true
second-true true b e = e
second-true false b e = absurd (true≢false (sym e))

abbrev all_upper_below : ℕ → Bool
all_upper_below zero = true
all_upper_below (suc k) = is_upper_digit (slice_index upper_digits k) && all_upper_below k

upper_below : (n d : ℕ) → all_upper_below n ≡ true → d < n → is_upper_digit (slice_index upper_digits d) ≡ true
upper_below zero d all lt = absurd (omega arith)
upper_below (suc n) d all lt =
    let within : d ≤ n = omega arith in
    ⊎_elim
    (λ same. ap (λ (k : ℕ). is_upper_digit (slice_index upper_digits k)) same ∙ first-true (is_upper_digit (slice_index upper_digits n)) (all_upper_below n) all)
    (λ less. upper_below n d (second-true (is_upper_digit (slice_index upper_digits n)) (all_upper_below n) all) less)
    (eq-or-lt_of_le within)

-- a digit of the table is an upper-case one
upper_at : (d : ℕ) → d < 16 → is_upper_digit (slice_index upper_digits d) ≡ true
upper_at d lt = upper_below 16 d refl lt

-- the digits of bytes are upper-case
list_all-encode : (bytes : List ℕ) → IsBytes bytes → list_all is_upper_digit (encode_upper bytes) ≡ true
unfolding encode_with
list_all-encode [] is = refl
list_all-encode (b ∷ rest) is =
    let fits : b < 256 = is 0 in
    both (is_upper_digit (slice_index upper_digits (b / 16))) (is_upper_digit (slice_index upper_digits (b % 16)) && list_all is_upper_digit (encode_upper rest)) (upper_at (b / 16) (omega arith))
    (both (is_upper_digit (slice_index upper_digits (b % 16))) (list_all is_upper_digit (encode_upper rest)) (upper_at (b % 16) (omega arith)) (list_all-encode rest (λ k. is (suc k))))

some-digits : (n : ℕ) → 0 < n → nat_lt 0 n ≡ true
some-digits n some = grind (arith, nat_tests)

pub hex_bytes_of-encode : (bytes : List ℕ) → 0 < length bytes → IsBytes bytes → hex_bytes_of (encode_upper bytes) ≡ Some bytes
hex_bytes_of-encode bytes some is =
    let digits : List ℕ = encode_upper bytes in
    let many : 0 < length digits = omega (arith, length-encode_with upper_digits bytes) in
    let upper : are_upper_digits digits ≡ true = both (nat_lt 0 (length digits)) (list_all is_upper_digit digits) (some-digits (length digits) many) (list_all-encode bytes is) in
    ap (λ (v : Bool). if v then result_ok (decode_of digits) else None) upper ∙ ap (λ r. result_ok r) (decode_of-encode_upper bytes is)

-- no LF, no `!` and no space
abbrev pub is_plain : ℕ → Bool
is_plain b = not (b == 10) && (not (b == 33) && not (b == 32))

upper-plain : (c : ℕ) → is_upper_digit c ≡ true → is_plain c ≡ true
upper-plain c is = grind (arith, nat_tests)

pub all-weaker : (p q : ℕ → Bool) → ((c : ℕ) → p c ≡ true → q c ≡ true) → (xs : List ℕ) → list_all p xs ≡ true → list_all q xs ≡ true
all-weaker p q w [] h = refl
all-weaker p q w (x ∷ xs) h = both (q x) (list_all q xs) (w x (first-true (p x) (list_all p xs) h)) (all-weaker p q w xs (second-true (p x) (list_all p xs) h))

pub plain-encode : (bytes : List ℕ) → IsBytes bytes → list_all is_plain (encode_upper bytes) ≡ true
plain-encode bytes is = all-weaker is_upper_digit is_plain upper-plain (encode_upper bytes) (list_all-encode bytes is)

abbrev Plain : ℕ → List ℕ → Type 0
Plain n ds = list_all is_plain ds ≡ true

digit-plain : (d : ℕ) → d < 10 → is_plain (48 + d) ≡ true
digit-plain d small = grind (arith, nat_tests)

pub plain-decimal : (n : ℕ) → n ≤ 65535 → list_all is_plain (decimal n) ≡ true
plain-decimal n within =
    decimal_by_steps Plain
    (λ d small. both (is_plain (48 + d)) true (digit-plain d small) refl)
    (λ m ds big plain. list_all-append is_plain ds ((48 + m % 10) ∷ []) ∙ both (list_all is_plain ds) (is_plain (48 + m % 10) && true) plain (both (is_plain (48 + m % 10)) true (digit-plain (m % 10) (omega arith)) refl))
    n (omega arith)

plain-space : (c : ℕ) → is_plain c ≡ true → (c == 32) ≡ false
plain-space c is = grind (arith, nat_tests)

plain-LF : (c : ℕ) → is_plain c ≡ true → (c == 10) ≡ false
plain-LF c is = grind (arith, nat_tests)

pub plain-bang : (c : ℕ) → is_plain c ≡ true → not (c == 33) ≡ true
plain-bang c is = grind (arith, nat_tests)

pub HasNoLF-plain : (xs : List ℕ) → list_all is_plain xs ≡ true → HasNoLF xs
HasNoLF-plain [] h = tt
HasNoLF-plain (x ∷ xs) h = (plain-LF x (first-true (is_plain x) (list_all is_plain xs) h), HasNoLF-plain xs (second-true (is_plain x) (list_all is_plain xs) h))

abbrev pub is_no_bang : ℕ → Bool
is_no_bang b = not (b == 33)

pub no_bang-plain : (xs : List ℕ) → list_all is_plain xs ≡ true → list_all is_no_bang xs ≡ true
no_bang-plain xs h = all-weaker is_plain is_no_bang plain-bang xs h

pub no_bang-append : (xs ys : List ℕ) → list_all is_no_bang xs ≡ true → list_all is_no_bang ys ≡ true → list_all is_no_bang (xs ++ ys) ≡ true
no_bang-append xs ys h g = list_all-append is_no_bang xs ys ∙ both (list_all is_no_bang xs) (list_all is_no_bang ys) h g

prefix-space : (ds rest : List ℕ) → list_all is_plain ds ≡ true → position_or_len (λ b. b == 32) (ds ++ 32 ∷ rest) ≡ length ds
prefix-space [] rest h = refl
prefix-space (d ∷ ds) rest h =
    let e : (d == 32) ≡ false = plain-space d (first-true (is_plain d) (list_all is_plain ds) h) in
    ap (λ (v : Bool). cond (not v) (1 + position_or_len (λ b. b == 32) (ds ++ 32 ∷ rest)) 0) e ∙ omega (arith, prefix-space ds rest (second-true (is_plain d) (list_all is_plain ds) h))

-- the first space stands behind the plain bytes
pub position-space : (ds rest : List ℕ) → list_all is_plain ds ≡ true → position (λ b. b == 32) (ds ++ 32 ∷ rest) ≡ Some (length ds)
position-space ds rest h =
    let all : List ℕ = ds ++ 32 ∷ rest in
    let lt : length ds < length all = omega (arith, length-append ds (32 ∷ rest)) in
    ap (λ (i : ℕ). cond (nat_lt i (length all)) (Some i) None) (prefix-space ds rest h) ∙ ap (λ (v : Bool). cond v (Some (length ds)) None) (lt-ltb (length ds) (length all) lt)
