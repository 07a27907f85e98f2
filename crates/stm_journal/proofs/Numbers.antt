-- A printed number reads back.
use Rattle.std.proofs.Common.{◌≡◌, ◌≤◌, ◌<◌, ℕ, zero, suc, ◌+◌, ◌*◌, ◌-◌, ◌/◌, ◌%◌, ◌^◌, Bool, true, false, ◌==◌, ◌&&◌, ◌||◌, nat_le, nat_lt, if◌then◌else◌, List, [], ◌∷◌, length, fold, get_or, Option, Some, None, decimal, refl, ◌∙◌, ap, arith}
use Rattle.std.proofs.lemmas.Bool.Decides.{nat_tests}
use Rattle.std.proofs.lemmas.List.Sums.{fold_push}
use Rattle.std.proofs.lemmas.Fmt.{decimal_by_steps, decimal_digit, first_decimal, decimal_nonempty}
use Rattle.stm_journal.proofs.Names.{decimal_of, with_digit}

-- a test that holds
taken : (b : Bool) (x y : Option ℕ) → b ≡ true → (if b then x else y) ≡ x
taken b x y e = ap (λ (v : Bool). if v then x else y) e

refused : (b : Bool) (x y : Option ℕ) → b ≡ false → (if b then x else y) ≡ y
refused b x y e = ap (λ (v : Bool). if v then x else y) e

is_small : (n d : ℕ) → d < 10 → n * 10 + d ≤ 65535 → ((nat_le 48 (48 + d) && nat_le (48 + d) 57) && nat_le (n * 10 + ((48 + d) - 48)) 65535) ≡ true
is_small n d small within = grind (arith, nat_tests)

with_digit-digit : (n d : ℕ) → d < 10 → n * 10 + d ≤ 65535 → with_digit (Some n) (48 + d) ≡ Some (n * 10 + d)
with_digit-digit n d small within =
    let e : (48 + d) - 48 ≡ d = omega arith in
    taken ((nat_le 48 (48 + d) && nat_le (48 + d) 57) && nat_le (n * 10 + ((48 + d) - 48)) 65535) (Some (n * 10 + ((48 + d) - 48))) None (is_small n d small within)
    ∙ ap (λ (x : ℕ). Some (n * 10 + x)) e

abbrev Reads : ℕ → List ℕ → Type 0
Reads n ds = n ≤ 65535 → fold with_digit (Some 0) ds ≡ Some n

fold-decimal : (n : ℕ) → n < 2 ^ 64 → Reads n (decimal n)
fold-decimal n fits =
    decimal_by_steps Reads
    (λ d small within. let e : 0 * 10 + d ≡ d = omega arith in with_digit-digit 0 d small (omega arith) ∙ ap (λ (x : ℕ). Some x) e)
    (λ m ds big read within.
    let whole : m / 10 * 10 + m % 10 ≡ m = omega arith in
    fold_push with_digit (Some 0) ds (48 + m % 10)
    ∙ ap (λ (o : Option ℕ). with_digit o (48 + m % 10)) (read (omega arith))
    ∙ with_digit-digit (m / 10) (m % 10) (omega arith) (omega arith)
    ∙ ap (λ (x : ℕ). Some x) whole)
    n fits

no-zero : (len first : ℕ) → 0 < len → 48 < first → ((len == 0) || (nat_lt 1 len && (first == 48))) ≡ false
no-zero len first some big = grind (arith, nat_tests)

pub number_of-decimal : (n : ℕ) → n ≤ 65535 → decimal_of (decimal n) ≡ Some n
number_of-decimal zero within =
    let e : decimal 0 ≡ 48 ∷ [] = decimal_digit 0 (omega arith) in
    rw e refl
number_of-decimal (suc m) within =
    let n : ℕ = suc m in
    let ds : List ℕ = decimal n in
    refused ((length ds == 0) || (nat_lt 1 (length ds) && (get_or ds 0 0 == 48))) None (fold with_digit (Some 0) ds) (no-zero (length ds) (get_or ds 0 0) (decimal_nonempty n (omega arith)) (first_decimal n (omega arith) (omega arith)))
    ∙ fold-decimal n (omega arith) within
