-- Digits at the front of a text, and what they decode to.
use Rattle.std.proofs.Common.{◌≡◌, ◌≢◌, ℕ, zero, suc, ◌+◌, ◌-◌, ◌*◌, ◌<◌, ◌≤◌, Bool, List, [], ◌∷◌, length, take, drop, get_or, refl, sym, ap, ◌∙◌, inl, inr, arith}
use Rattle.std.specs.Prelude.{slice_index, IsOk, ◌↔◌}
use Rattle.std.proofs.lemmas.Bool.Decides.{nat_tests}
use mathlib.Core.Bool.{false≢true}
use Rattle.std.specs.List.{prefix_len, AllPass}
use Rattle.std.proofs.lemmas.Bool.{cases_lt, cases_eq}
use Rattle.std.proofs.lemmas.List.Sums.{prefix_len_passes, prefix_len_stops}
use Rattle.std.proofs.lemmas.Grind.{common_steps}
use Rattle.hex.specs.Hex.{is_hex_digit, decode_sized}
use Rattle.hex.proofs.HexLemmas.{IsOk-decode_sized}
use Rattle.stm_image.specs.Record.{Whole, Cut, Broken, Ended, Stray, is_blank, scan, scan_begun, digits_bytes, digits_needed, ends_digits, scan_digits}

-- an element of the front is that of the list
pub get_or-take : (xs : List ℕ) (m k d : ℕ) → k < m → get_or (take m xs) k d ≡ get_or xs k d
get_or-take xs m k d lt = grind (arith, common_steps)

-- the first m pass exactly where the passing front is so long
pub front_passes : (p : ℕ → Bool) (xs : List ℕ) (m : ℕ) → m ≤ length xs → AllPass p (take m xs) ↔ (m ≤ prefix_len p xs)
front_passes p xs m within = (to, from)
  where
    to : AllPass p (take m xs) → m ≤ prefix_len p xs
    to pass = elim (cases_lt (prefix_len p xs) m) [
      | inl short ↦
          let stops = prefix_len_stops p xs 0 (omega arith) in
          let here : prefix_len p xs < length (take m xs) = grind (arith, common_steps) in
          let passes = pass (prefix_len p xs) 0 here in
          absurd (false≢true (sym stops ∙ sym (ap p (get_or-take xs m (prefix_len p xs) 0 short)) ∙ passes))
      | inr enough ↦ enough
    ]

    from : m ≤ prefix_len p xs → AllPass p (take m xs)
    from enough k d lt =
        let below : k < m = grind (arith, common_steps) in
        ap p (get_or-take xs m k d below) ∙ prefix_len_passes p xs k d (omega arith)

-- so decoding n bytes succeeds exactly there
pub decodes : (text : List ℕ) (n : ℕ) → 2 * n ≤ length text → IsOk (decode_sized (take (2 * n) text) n) ↔ (2 * n ≤ prefix_len is_hex_digit text)
decodes text n within =
    let both = IsOk-decode_sized (take (2 * n) text) n in
    let front = front_passes is_hex_digit text (2 * n) within in
    let len : length (take (2 * n) text) ≡ 2 * n = grind (arith, common_steps) in
    (λ ok. let parts = both.0 ok in front.0 parts.1, λ enough. both.1 (len, front.1 enough))

-- where the digits suffice
pub needed : (text : List ℕ) (count : ℕ) → 2 ≤ prefix_len is_hex_digit text → count ≡ slice_index (digits_bytes (take 2 text)) 0 + 5 → digits_needed text ≡ 2 * count
needed text count two is = grind (arith, nat_tests)

pub needed_two : (text : List ℕ) → prefix_len is_hex_digit text < 2 → digits_needed text ≡ 2
needed_two text few = grind (arith, nat_tests)

pub scans_whole : (text : List ℕ) (m : ℕ) → digits_needed text ≡ m → m ≤ prefix_len is_hex_digit text → scan_digits text ≡ Whole (digits_bytes (take m text)) (drop m text)
unfolding scan_digits
scans_whole text m is enough = grind (arith, nat_tests)

pub scans_short : (text : List ℕ) → prefix_len is_hex_digit text < digits_needed text → scan_digits text ≡ ends_digits (drop (prefix_len is_hex_digit text) text)
unfolding scan_digits
scans_short text few = grind (arith, nat_tests)

-- the count is in the first byte
pub count_read : (text buffer : List ℕ) → take 1 buffer ≡ digits_bytes (take 2 text) → get_or buffer 0 0 ≡ slice_index (digits_bytes (take 2 text)) 0
count_read text buffer is = sym (get_or-take buffer 1 0 0 (omega arith)) ∙ ap (λ t. get_or t 0 0) is

pub ends_cut : (text : List ℕ) (m : ℕ) → m ≡ length text → ends_digits (drop m text) ≡ Cut
ends_cut [] m is = rw is refl
ends_cut (x ∷ text) zero is = absurd (omega arith)
ends_cut (x ∷ text) (suc m) is = ends_cut text m (omega arith)

pub ends_broken : (text : List ℕ) (m : ℕ) → m < length text → ends_digits (drop m text) ≡ Broken
ends_broken [] m lt = absurd (omega arith)
ends_broken (x ∷ text) zero lt = refl
ends_broken (x ∷ text) (suc m) lt = ends_broken text m (omega arith)

-- the end of a slice, as code takes it
pub whole_rest : (text : List ℕ) (n : ℕ) → take (length text - n) (drop n text) ≡ drop n text
whole_rest text n = grind (arith, common_steps)

scan_at : (text : List ℕ) (n : ℕ) → n ≡ prefix_len is_blank text → scan text ≡ scan_begun (take (length text - n) (drop n text))
unfolding scan
scan_at text n is = ap (λ m. scan_begun (drop m text)) (sym is) ∙ sym (ap scan_begun (whole_rest text n))

begun_none : (begun : List ℕ) → length begun ≡ 0 → scan_begun begun ≡ Ended
begun_none [] none = refl
begun_none (x ∷ begun) none = absurd (omega arith)

begun_colon : (b : ℕ) (rest : List ℕ) → b ≡ 58 → scan_begun (b ∷ rest) ≡ scan_digits rest
begun_colon b rest is = rw is refl

begun_other : (b : ℕ) (rest : List ℕ) → b ≢ 58 → scan_begun (b ∷ rest) ≡ Stray
begun_other b rest other = grind (arith, nat_tests)

module _ (text : List ℕ) (n : ℕ) (is : n ≡ prefix_len is_blank text) where
  pub scan_none : length (take (length text - n) (drop n text)) ≡ 0 → scan text ≡ Ended
  scan_none none = scan_at text n is ∙ begun_none _ none

  pub scan_colon : (b : ℕ) (rest : List ℕ) → take (length text - n) (drop n text) ≡ b ∷ rest → b ≡ 58 → scan text ≡ scan_digits rest
  scan_colon b rest begun colon = scan_at text n is ∙ ap scan_begun begun ∙ begun_colon b rest colon

  pub scan_other : (b : ℕ) (rest : List ℕ) → take (length text - n) (drop n text) ≡ b ∷ rest → b ≢ 58 → scan text ≡ Stray
  scan_other b rest begun other = scan_at text n is ∙ ap scan_begun begun ∙ begun_other b rest other

ends_nothing_whole : (text r after : List ℕ) → ends_digits text ≡ Whole r after → ⊥
ends_nothing_whole [] r after e = cc
ends_nothing_whole (x ∷ text) r after e = cc

digits_shrink : (text r after : List ℕ) → scan_digits text ≡ Whole r after → length after ≤ length text
digits_shrink text r after e = elim (cases_lt (prefix_len is_hex_digit text) (digits_needed text)) [
  | inl short ↦ absurd (ends_nothing_whole (drop (prefix_len is_hex_digit text) text) r after (sym (scans_short text short) ∙ e))
  | inr enough ↦
      let whole : Whole (digits_bytes (take (digits_needed text) text)) (drop (digits_needed text) text) ≡ Whole r after = sym (scans_whole text (digits_needed text) refl enough) ∙ e in
      let same : drop (digits_needed text) text ≡ after = cc whole in
      rw (← same) (grind (arith, common_steps))
]

begun_shrinks : (begun r after : List ℕ) → scan_begun begun ≡ Whole r after → length after < length begun
begun_shrinks [] r after e = cc
begun_shrinks (b ∷ rest) r after e = elim (cases_eq b 58) [
  | inl colon ↦ let shorter = digits_shrink rest r after (sym (begun_colon b rest colon) ∙ e) in omega arith
  | inr other ↦ let stray : Stray ≡ Whole r after = sym (begun_other b rest other) ∙ e in cc
]

-- a record takes some of the text
pub scan_shrinks : (text r after : List ℕ) → scan text ≡ Whole r after → length after < length text
unfolding scan
scan_shrinks text r after e =
    let shorter = begun_shrinks (drop (prefix_len is_blank text) text) r after e in
    let within : length (drop (prefix_len is_blank text) text) ≤ length text = grind (arith, common_steps) in
    omega arith
