-- The digits of a unique id, as they are printed byte by byte.
use Rattle.std.proofs.Common.{◌≡◌, ℕ, zero, suc, ◌+◌, ◌-◌, ◌/◌, ◌%◌, ◌^◌, ◌<◌, ◌≤◌, Bool, true, false, ◌&&◌}
use Rattle.std.proofs.Common.{List, [], ◌∷◌, ◌++◌, length, take, get_or, slice_index, refl, sym, ◌∙◌, ap, ap₂}
use Rattle.std.proofs.Common.{arith, eq-or-lt_of_le, ⊎_elim}
use Rattle.std.proofs.Math.Dec.{eqb}
use Rattle.std.proofs.lemmas.Bool.{and_parts, eqb-true}
use Rattle.std.proofs.lemmas.Fmt.{hex_byte}
use Rattle.std.proofs.lemmas.List.{take_more}
use Rattle.std.specs.Fmt.{digit_glyph, digits, padded_integral, format_spec}
use Rattle.hex.specs.Hex.{encode_upper, encode_with, upper_digits}

-- the digits below are those of the table
abbrev same_below : ℕ → Bool
same_below zero = true
same_below (suc k) = eqb (slice_index upper_digits k) (digit_glyph true k) && same_below k

same_at : (n d : ℕ) → same_below n ≡ true → d < n
    → eqb (slice_index upper_digits d) (digit_glyph true d) ≡ true
same_at zero d all lt = absurd (omega arith)
same_at (suc n) d all lt =
    let within : d ≤ n = omega arith in
    ⊎_elim
    (λ same. ap (λ (k : ℕ). eqb (slice_index upper_digits k) (digit_glyph true k)) same
    ∙ (and_parts (eqb (slice_index upper_digits n) (digit_glyph true n)) (same_below n) all).0)
    (λ less. same_at n d
    (and_parts (eqb (slice_index upper_digits n) (digit_glyph true n)) (same_below n) all).1 less)
    (eq-or-lt_of_le within)

digit_is : (d : ℕ) → d < 16 → slice_index upper_digits d ≡ digit_glyph true d
digit_is d lt = eqb-true _ _ (same_at 16 d refl lt)

encoded-append : (xs ys : List ℕ) → encode_upper (xs ++ ys) ≡ encode_upper xs ++ encode_upper ys
unfolding encode_with
encoded-append [] ys = refl
encoded-append (x ∷ xs) ys =
    ap (λ (l : List ℕ). slice_index upper_digits (x / 16) ∷ slice_index upper_digits (x % 16) ∷ l)
    (encoded-append xs ys)

-- what is printed of one byte
printed : ℕ → List ℕ
printed byte = padded_integral (format_spec 32 0 4 2 (2 ^ 64 - 1)) false [] (digits 16 true byte)

one_byte : (byte : ℕ) → byte < 256 → encode_upper (byte ∷ []) ≡ printed byte
unfolding encode_with printed
one_byte byte lt =
    ap₂ (λ (a b : ℕ). a ∷ b ∷ []) (digit_is (byte / 16) (omega arith)) (digit_is (byte % 16) (omega arith))
    ∙ sym (hex_byte true byte lt)

-- one byte more
pub printed_more : (bytes : List ℕ) (i d : ℕ) → i < length bytes → get_or bytes i d < 256
    → encode_upper (take i bytes)
    ++ padded_integral (format_spec 32 0 4 2 (2 ^ 64 - 1)) false [] (digits 16 true (get_or bytes i d))
    ≡ encode_upper (take (i + 1) bytes)
unfolding printed
printed_more bytes i d inside lt =
    ap (λ (l : List ℕ). encode_upper (take i bytes) ++ l) (sym (one_byte (get_or bytes i d) lt))
    ∙ sym (encoded-append (take i bytes) (get_or bytes i d ∷ []))
    ∙ ap encode_upper (sym (take_more bytes i d inside))

-- no byte
pub printed_none : [] ≡ encode_upper []
unfolding encode_with
printed_none = refl
