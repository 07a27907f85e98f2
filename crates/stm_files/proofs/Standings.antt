-- The line that is written for where a simulator stands says just that.
use Rattle.std.proofs.Common.{◌≡◌, ℕ, zero, suc, ◌-◌, ◌/◌, ◌%◌, ◌<◌, ◌≤◌, Bool, true, false, ◌&&◌, nat_lt, if◌then◌else◌, List, [], ◌∷◌, ◌++◌, length, take, drop, slice_index, codes, bytes_eq, Option, Some, None, MatchOption, IsTrue, Bor, refl, sym, ◌∙◌, ap, ap₂, inl, inr, arith, length-append, get_or, eq-or-lt_of_le, ⊎_elim}
use Rattle.std.specs.Prelude.{All, option_map, option_and_then}
use Rattle.std.specs.List.{list_all}
use Rattle.std.specs.Result.{result_ok}
use Rattle.std.proofs.lemmas.Bool.{and_from, and_parts, cases_lt}
use Rattle.std.proofs.lemmas.Bool.Decides.{nat_tests}
use Rattle.std.proofs.lemmas.List.{get_or_past}
use Rattle.std.proofs.Math.Seq.{take-append_seam, drop-append_seam}
use Rattle.hex.specs.Hex.{IsBytes, decode_of, encode_upper, encode_with, upper_digits}
use Rattle.hex.proofs.HexLemmas.{length-encode_with, decode_of-encode_upper}
use Rattle.stm_wire.proofs.Names.{ChipData, Connected, Fresh, Gone, IsOpenPhase, Phase}
use Rattle.stm_files.specs.Standing.{are_upper_pairs, before_end, behind_word, is_upper_hex, standing_line, phase_from, rest_of_digits, standing_of}

abbrev all_upper_below : ℕ → Bool
all_upper_below zero = true
all_upper_below (suc k) = is_upper_hex (slice_index upper_digits k) && all_upper_below k

upper_below : (n d : ℕ) → all_upper_below n ≡ true → d < n
    → is_upper_hex (slice_index upper_digits d) ≡ true
upper_below zero d all lt = absurd (omega arith)
upper_below (suc n) d all lt =
    let within : d ≤ n = omega arith in
    ⊎_elim
    (λ same. ap (λ (k : ℕ). is_upper_hex (slice_index upper_digits k)) same
    ∙ (and_parts (is_upper_hex (slice_index upper_digits n)) (all_upper_below n) all).0)
    (λ less. upper_below n d
    (and_parts (is_upper_hex (slice_index upper_digits n)) (all_upper_below n) all).1 less)
    (eq-or-lt_of_le within)

upper_at : (d : ℕ) → d < 16 → is_upper_hex (slice_index upper_digits d) ≡ true
upper_at d lt = upper_below 16 d refl lt

-- the digits of bytes are upper-case
all-upper : (bytes : List ℕ) → IsBytes bytes → list_all is_upper_hex (encode_upper bytes) ≡ true
unfolding encode_with
all-upper [] is = refl
all-upper (b ∷ rest) is =
    let fits : b < 256 = is 0 in
    and_from (is_upper_hex (slice_index upper_digits (b / 16)))
    (is_upper_hex (slice_index upper_digits (b % 16)) && list_all is_upper_hex
    (encode_upper rest)) (upper_at (b / 16) (omega arith))
    (and_from (is_upper_hex (slice_index upper_digits (b % 16)))
    (list_all is_upper_hex (encode_upper rest)) (upper_at (b % 16) (omega arith))
    (all-upper rest (λ k. is (suc k))))

some-digits : (n : ℕ) → 0 < n → nat_lt 0 n ≡ true
some-digits n some = grind (arith, nat_tests)

digits-say : (bytes : List ℕ) → 0 < length bytes → IsBytes bytes
    → rest_of_digits (encode_upper bytes) ≡ Some (Connected bytes)
digits-say bytes some is =
    let digits : List ℕ = encode_upper bytes in
    let many : 0 < length digits = omega (arith, length-encode_with upper_digits bytes) in
    let upper : are_upper_pairs digits ≡ true = and_from (nat_lt 0 (length digits))
    (list_all is_upper_hex digits) (some-digits (length digits) many) (all-upper bytes is) in
    ap (λ (v : Bool). if v then option_map Connected (result_ok (decode_of digits)) else None) upper
    ∙ ap (λ r. option_map Connected (result_ok r)) (decode_of-encode_upper bytes is)

-- what stands before the LF that ends a text, and what behind its first word
ended : (words : List ℕ) → before_end (words ++ 10 ∷ []) ≡ Some words
ended words =
    let text : List ℕ = words ++ 10 ∷ [] in
    let size : length text - 1 ≡ length words = omega (arith, length-append words (10 ∷ [])) in
    ap (λ n. if bytes_eq (drop n text) (10 ∷ []) then Some (take n text) else None) size
    ∙ ap₂ (λ (d t : List ℕ). if bytes_eq d (10 ∷ []) then Some t else None)
    (drop-append_seam words (10 ∷ [])) (take-append_seam words (10 ∷ []))

worded : (digits : List ℕ) → behind_word (codes "rest ") (codes "rest " ++ digits) ≡ Some digits
worded digits =
    ap₂ (λ (t d : List ℕ). if bytes_eq t (codes "rest ") then Some d else None)
    (take-append_seam (codes "rest ") digits) (drop-append_seam (codes "rest ") digits)

-- the bytes of a rest
abbrev pub HasBytes : Phase → Type 0
HasBytes Fresh = Unit {0}
HasBytes (Connected rest) = All (λ byte. byte < 256) rest
HasBytes Gone = Unit {0}

is-bytes : (xs : List ℕ) → All (λ byte. byte < 256) xs → IsBytes xs
is-bytes xs all i = elim (cases_lt i (length xs)) [
  | inl lt ↦ all i 0 lt
  | inr past ↦ let e : get_or xs i 0 ≡ 0 = get_or_past xs i 0 past in omega arith
]

pub line-says : (p : Phase) → HasBytes p → standing_of (standing_line p) ≡ Some p
line-says Fresh is = refl
line-says Gone is = refl
line-says (Connected []) is = refl
line-says (Connected (byte ∷ rest)) is =
    let digits : List ℕ = encode_upper (byte ∷ rest) in
    ap (λ o. option_and_then
    (λ words. option_and_then rest_of_digits (behind_word (codes "rest ") words)) o)
    (ended (codes "rest " ++ digits))
    ∙ ap (λ o. option_and_then rest_of_digits o) (worded digits)
    ∙ digits-say (byte ∷ rest) (omega arith) (is-bytes (byte ∷ rest) is)

-- a device's rest has bytes
pub open-bytes : (chip : ChipData) (codes : List ℕ) (p : Phase) → IsOpenPhase chip codes p
    → HasBytes p
open-bytes chip codes Fresh is = tt
open-bytes chip codes (Connected rest) is = is.1
open-bytes chip codes Gone is = tt

-- what a simulator tells of where it stands
pub phase-is : (p : Phase) (gone : Bool) (rest : Option (Bor (List ℕ)))
    → (IsTrue gone → p ≡ Gone) × (p ≡ Gone → IsTrue gone)
    → MatchOption rest ((r : List ℕ) → p ≡ Connected r → ⊥) (λ r. p ≡ Connected r.now)
    → phase_from gone (option_map (λ r. r.now) rest) ≡ p
phase-is p true rest gone is = sym (gone.0 (cc))
phase-is p false (Some r) gone is = sym is
phase-is Fresh false None gone is = refl
phase-is (Connected r) false None gone is = absurd (is r refl)
phase-is Gone false None gone is = let no : IsTrue false = gone.1 refl in absurd (cc)

abbrev phase-in : Option Phase → Phase
phase-in None = Fresh
phase-in (Some p) = p

-- a line that was written for where a device stands, and was read
pub reads-back : (p q : Phase) (line : List ℕ) → HasBytes p → line ≡ standing_line p
    → Some q ≡ standing_of line → q ≡ p
reads-back p q line bytes written read = ap phase-in (read ∙ ap standing_of written
    ∙ line-says p bytes)
