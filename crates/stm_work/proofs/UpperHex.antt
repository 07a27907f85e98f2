-- The digits that are printed of a number in base 16.
use Rattle.std.proofs.Common.{◌≡◌, ℕ, zero, suc, ◌+◌, ◌-◌, ◌/◌, ◌%◌, ◌^◌, ◌<◌, ◌≤◌, arith, Bool, true, false}
use Rattle.std.proofs.Common.{List, [], ◌∷◌, ◌++◌, length, replicate, refl, sym, ap, subst, ◌∙◌, append_assoc, append-nil, ⊎_elim}
use Rattle.std.proofs.Common.{pow-suc, div-lt_iff_lt-mul}
use Rattle.std.proofs.lemmas.List.{replicate-append-replicate}
use Rattle.std.proofs.lemmas.Bool.{cases_lt, ne_eqb, eq-eqb}
use Rattle.std.proofs.Math.Dec.{eqb}
use Rattle.std.specs.Fmt.{digit_glyph, digits, digits_onto, padded_integral, format_spec, char_count}
use Rattle.std.specs.Prelude.{if◌then◌else◌}
use Rattle.stm_work.specs.UpperHex.{upper_hex}

-- what stands behind zeros, so wide
abbrev filled : ℕ → List ℕ → List ℕ
filled k numeral = replicate (k - length numeral) 48 ++ numeral

padded_is : (k : ℕ) (numeral : List ℕ) → padded_integral (format_spec 32 0 4 k (2 ^ 64 - 1)) false [] numeral ≡ filled k numeral
unfolding padded_integral char_count
padded_is k numeral =
    ap (λ (z : ℕ). replicate z 48 ++ (numeral ++ [])) {x = k - length numeral - 0 - 0} {y = k - length numeral} (omega arith)
    ∙ ap (λ (t : List ℕ). replicate (k - length numeral) 48 ++ t) (append-nil numeral)

-- its last digit
abbrev last : ℕ → ℕ
last n = digit_glyph true (n % 16)

chosen : (f n : ℕ) (acc : List ℕ) (t : Bool) → eqb (n / 16) 0 ≡ t
    → digits_onto (suc f) 16 true n acc
    ≡ if t then last n ∷ acc else digits_onto f 16 true (n / 16) (last n ∷ acc)
chosen f n acc t e =
    ap (λ (b : Bool). if b then last n ∷ acc else digits_onto f 16 true (n / 16) (last n ∷ acc)) e

one : (f n : ℕ) (acc : List ℕ) → n < 16 → digits_onto (suc f) 16 true n acc ≡ last n ∷ acc
one f n acc small = chosen f n acc true (eq-eqb (n / 16) 0 (omega arith))

more : (f n : ℕ) (acc : List ℕ) → 16 ≤ n
    → digits_onto (suc f) 16 true n acc ≡ digits_onto f 16 true (n / 16) (last n ∷ acc)
more f n acc large = chosen f n acc false (ne_eqb (n / 16) 0 (λ e. omega arith))

zeros : (k : ℕ) → upper_hex k 0 ≡ replicate k 48
unfolding upper_hex
zeros zero = refl
zeros (suc k) =
    ap (λ (xs : List ℕ). xs ++ 48 ∷ []) (zeros k)
    ∙ replicate-append-replicate k 1 48
    ∙ ap (λ (n : ℕ). replicate n 48) {x = k + 1} {y = suc k} (omega arith)

-- one digit, where more are wanted
short : (k f n : ℕ) (acc : List ℕ) → n < 16
    → filled (suc (suc k) + length acc) (digits_onto (suc f) 16 true n acc)
    ≡ upper_hex (suc (suc k)) n ++ acc
unfolding upper_hex
short k f n acc small =
    ap (filled (suc (suc k) + length acc)) (one f n acc small)
    ∙ ap (λ (z : ℕ). replicate z 48 ++ last n ∷ acc)
    {x = suc (suc k) + length acc - length (last n ∷ acc)} {y = suc k} (omega arith)
    ∙ ap (λ (xs : List ℕ). xs ++ last n ∷ acc) (sym (zeros (suc k)))
    ∙ ap (λ (m : ℕ). upper_hex (suc k) m ++ last n ∷ acc) {x = 0} {y = n / 16} (omega arith)
    ∙ sym (append_assoc (upper_hex (suc k) (n / 16)) (last n ∷ []) acc)

-- more digits
long : (k f n : ℕ) (acc : List ℕ) → 16 ≤ n
    → filled (suc k + length (last n ∷ acc)) (digits_onto f 16 true (n / 16) (last n ∷ acc))
    ≡ upper_hex (suc k) (n / 16) ++ last n ∷ acc
    → filled (suc (suc k) + length acc) (digits_onto (suc f) 16 true n acc)
    ≡ upper_hex (suc (suc k)) n ++ acc
unfolding upper_hex
long k f n acc large had =
    ap (filled (suc (suc k) + length acc)) (more f n acc large)
    ∙ ap (λ (w : ℕ). filled w (digits_onto f 16 true (n / 16) (last n ∷ acc)))
    {x = suc (suc k) + length acc} {y = suc k + length (last n ∷ acc)} (omega arith)
    ∙ had
    ∙ sym (append_assoc (upper_hex (suc k) (n / 16)) (last n ∷ []) acc)

spelled : (k f n : ℕ) (acc : List ℕ) → n < 16 ^ suc k → k ≤ f
    → filled (suc k + length acc) (digits_onto (suc f) 16 true n acc) ≡ upper_hex (suc k) n ++ acc
unfolding upper_hex
spelled zero f n acc fits room =
    ap (filled (1 + length acc)) (one f n acc (omega (arith, fits)))
    ∙ ap (λ (z : ℕ). replicate z 48 ++ last n ∷ acc) {x = 1 + length acc - length (last n ∷ acc)} {y = 0} (omega arith)
spelled (suc k) zero n acc fits room = absurd (omega arith)
spelled (suc k) (suc f) n acc fits room = ⊎_elim
    (λ small. short k (suc f) n acc small)
    (λ large. long k (suc f) n acc large (spelled k f (n / 16) (last n ∷ acc)
    ((div-lt_iff_lt-mul {k = 16} (omega arith)).1 (subst (λ (m : ℕ). n < m) (pow-suc 16 (suc k)) fits))
    (omega (arith, room))))
    (cases_lt n 16)

pub upper_hex_is : (k n : ℕ) → 0 < k → k ≤ 64 → n < 16 ^ k
    → padded_integral (format_spec 32 0 4 k (2 ^ 64 - 1)) false [] (digits 16 true n) ≡ upper_hex k n
unfolding digits
upper_hex_is zero n some most fits = absurd (omega arith)
upper_hex_is (suc k) n some most fits =
    padded_is (suc k) (digits 16 true n)
    ∙ ap (λ (w : ℕ). filled w (digits 16 true n)) {x = suc k} {y = suc k + 0} (omega arith)
    ∙ spelled k 63 n [] fits (omega arith)
    ∙ append-nil (upper_hex (suc k) n)

-- of a byte, of 16 bits and of 32
pub hex_2 : (n : ℕ) → n < 2 ^ 8
    → padded_integral (format_spec 32 0 4 2 (2 ^ 64 - 1)) false [] (digits 16 true n) ≡ upper_hex 2 n
hex_2 n fits = upper_hex_is 2 n (omega arith) (omega arith) (omega (arith, fits))

pub hex_4 : (n : ℕ) → n < 2 ^ 16
    → padded_integral (format_spec 32 0 4 4 (2 ^ 64 - 1)) false [] (digits 16 true n) ≡ upper_hex 4 n
hex_4 n fits = upper_hex_is 4 n (omega arith) (omega arith) (omega (arith, fits))

pub hex_8 : (n : ℕ) → n < 2 ^ 32
    → padded_integral (format_spec 32 0 4 8 (2 ^ 64 - 1)) false [] (digits 16 true n) ≡ upper_hex 8 n
hex_8 n fits = upper_hex_is 8 n (omega arith) (omega arith) (omega (arith, fits))
