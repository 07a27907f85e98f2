-- A record's line is scanned to its bytes.
use Rattle.std.proofs.Common.{◌≡◌, ℕ, zero, suc, ◌+◌, ◌-◌, ◌*◌, ◌/◌, ◌%◌, ◌<◌, ◌≤◌, ◌++◌, List, [], ◌∷◌, length, take, drop, get_or, Ok, None, refl, sym, ap, ap₂, ◌∙◌, append_assoc, length-append, arith}
use Rattle.std.specs.Prelude.{true, sum, slice_index, nat_le, All}
use Rattle.std.specs.List.{prefix_len, AllPass}
use Rattle.std.specs.Result.{result_unwrap_or, is_ok}
use Rattle.std.proofs.lemmas.Bool.{cases_lt}
use Rattle.std.proofs.Common.{inl, inr}
use Rattle.std.proofs.lemmas.Bool.Decides.{nat_tests}
use Rattle.std.proofs.lemmas.List.{get_or_append_left, get_or_past}
use Rattle.std.proofs.lemmas.List.Elements.{All-cons, All-push, All-nil}
use Rattle.std.proofs.lemmas.List.Sums.{prefix_len_is, sum_by-append}
use Rattle.std.proofs.Math.Seq.{take-append_seam, drop-append_seam, get_or-append_seam}
use Rattle.hex.specs.Hex.{is_hex_digit, encode_with, encode_upper, upper_digits, decode_sized, IsBytes}
use Rattle.hex.proofs.HexLemmas.{length-encode_with, decode_of-encode_upper, decode_sized-twice, IsOk-decode_sized}
use Rattle.stm_image.specs.Record.{Whole, scan, scan_digits, scan_begun, is_blank, digits_bytes, flaw_of, has_length}
use Rattle.stm_image.specs.Canon.{line, record_bytes, checked}
use Rattle.stm_image.proofs.Digits.{needed, scans_whole}

-- each number is a byte
abbrev pub AllBytes : List ℕ → Type 0
AllBytes xs = All (λ b. b < 256) xs

is_bytes : (xs : List ℕ) → AllBytes xs → IsBytes xs
is_bytes xs all i = elim (cases_lt i (length xs)) [
  | inl lt ↦ all i 0 lt
  | inr past ↦ let e : get_or xs i 0 ≡ 0 = get_or_past xs i 0 past in omega arith
]

-- printed bytes are digits, which decode to them
decodes_back : (xs : List ℕ) → AllBytes xs → digits_bytes (encode_upper xs) ≡ xs
decodes_back xs all = ap (λ r. result_unwrap_or r []) (decode_of-encode_upper xs (is_bytes xs all))

are_digits : (xs : List ℕ) → AllBytes xs → AllPass is_hex_digit (encode_upper xs)
are_digits xs all =
    let long = length-encode_with upper_digits xs in
    let ok : decode_sized (encode_upper xs) (length xs) ≡ Ok xs = decode_sized-twice (encode_upper xs) (length xs) long ∙ decode_of-encode_upper xs (is_bytes xs all) in
    ((IsOk-decode_sized (encode_upper xs) (length xs)).0 (ap is_ok ok)).1

-- the digits of a record, and then LF
module _ (xs more : List ℕ) (all : AllBytes xs) where
  digits_end : prefix_len is_hex_digit (encode_upper xs ++ 10 ∷ more) ≡ length (encode_upper xs)
  digits_end =
      let within = length-append (encode_upper xs) (10 ∷ more) in
      prefix_len_is is_hex_digit (encode_upper xs ++ 10 ∷ more) (length (encode_upper xs)) 0 (omega arith)
      (λ k lt. ap is_hex_digit (get_or_append_left (encode_upper xs) (10 ∷ more) 0 k lt) ∙ are_digits xs all k 0 lt)
      (λ lt. ap is_hex_digit (get_or-append_seam (encode_upper xs) 10 more 0))

first_two : (b : ℕ) (rest more : List ℕ) → take 2 (encode_upper (b ∷ rest) ++ 10 ∷ more) ≡ encode_upper (b ∷ [])
unfolding encode_with
first_two b rest more = refl

scans_digits : (b : ℕ) (rest more : List ℕ) → AllBytes (b ∷ rest) → length (b ∷ rest) ≡ b + 5
    → scan_digits (encode_upper (b ∷ rest) ++ 10 ∷ more) ≡ Whole (b ∷ rest) (10 ∷ more)
scans_digits b rest more all long =
    let xs = b ∷ rest in
    let text = encode_upper xs ++ 10 ∷ more in
    let twice = length-encode_with upper_digits xs in
    let front = digits_end xs more all in
    let one : AllBytes (b ∷ []) = All-cons (λ x. x < 256) b [] (all zero 0 (omega arith)) (All-nil (λ x. x < 256)) in
    let first : slice_index (digits_bytes (take 2 text)) 0 ≡ b = ap (λ ds. slice_index (digits_bytes ds) 0) (first_two b rest more) ∙ ap (λ bs. slice_index bs 0) (decodes_back (b ∷ []) one) in
    let need = needed text (b + 5) (omega arith) (ap (λ n. n + 5) (sym first)) in
    let m : 2 * (b + 5) ≡ length (encode_upper xs) = omega arith in
    let whole = scans_whole text (length (encode_upper xs)) (need ∙ m) (omega arith) in
    let front_is : take (length (encode_upper xs)) text ≡ encode_upper xs = take-append_seam (encode_upper xs) (10 ∷ more) in
    let back_is : drop (length (encode_upper xs)) text ≡ 10 ∷ more = drop-append_seam (encode_upper xs) (10 ∷ more) in
    whole ∙ ap₂ Whole (ap digits_bytes front_is ∙ decodes_back xs all) back_is

scan_colon : (digits : List ℕ) → scan (58 ∷ digits) ≡ scan_digits digits
unfolding scan
scan_colon digits = refl

-- LF before a record is passed over
pub scan_blank : (text : List ℕ) → scan (10 ∷ text) ≡ scan text
unfolding scan
scan_blank text = let e : 1 + prefix_len is_blank text ≡ suc (prefix_len is_blank text) = omega arith in ap (λ n. scan_begun (drop n (10 ∷ text))) e

-- what `record_bytes` makes
check_byte : (bytes : List ℕ) → (256 - sum bytes % 256) % 256 < 256
check_byte bytes = omega arith

record_is_bytes : (offset kind : ℕ) (bytes : List ℕ) → offset < 65536 → kind < 256 → length bytes < 256 → AllBytes bytes → AllBytes (record_bytes offset kind bytes)
record_is_bytes offset kind bytes low small short all =
    let P : ℕ → Type 0 = λ b. b < 256 in
    let head = length bytes ∷ offset / 256 ∷ offset % 256 ∷ kind ∷ bytes in
    let high : offset / 256 < 256 = omega arith in
    let down : offset % 256 < 256 = omega arith in
    All-push P head ((256 - sum head % 256) % 256)
    (All-cons P (length bytes) (offset / 256 ∷ offset % 256 ∷ kind ∷ bytes) short (All-cons P (offset / 256) (offset % 256 ∷ kind ∷ bytes) high (All-cons P (offset % 256) (kind ∷ bytes) down (All-cons P kind bytes small all))))
    (check_byte head)

pub length-record : (offset kind : ℕ) (bytes : List ℕ) → length (record_bytes offset kind bytes) ≡ length bytes + 5
length-record offset kind bytes =
    let head = length bytes ∷ offset / 256 ∷ offset % 256 ∷ kind ∷ bytes in
    let e = length-append head ((256 - sum head % 256) % 256 ∷ []) in
    omega arith

-- THE LINE OF A RECORD is scanned to its bytes, and LF stands after them
pub scan_line : (offset kind : ℕ) (bytes more : List ℕ) → offset < 65536 → kind < 256 → length bytes < 256 → AllBytes bytes
    → scan (line offset kind bytes ++ more) ≡ Whole (record_bytes offset kind bytes) (10 ∷ more)
unfolding line
scan_line offset kind bytes more low small short all =
    let rb = record_bytes offset kind bytes in
    ap (λ t. scan (58 ∷ t)) (append_assoc (encode_upper rb) (10 ∷ []) more) ∙ scan_colon (encode_upper rb ++ 10 ∷ more)
    ∙ scans_digits (length bytes) _ more (record_is_bytes offset kind bytes low small short all) (length-record offset kind bytes)

sums_to_zero : (bytes : List ℕ) → sum (checked bytes) % 256 ≡ 0
sums_to_zero bytes =
    let check = (256 - sum bytes % 256) % 256 in
    let e = sum_by-append (λ x. x) bytes (check ∷ []) in
    zero_from (sum (checked bytes)) (sum bytes) check e refl
  where
    zero_from : (total s c : ℕ) → total ≡ s + (0 + c) → c ≡ (256 - s % 256) % 256 → total % 256 ≡ 0
    zero_from total s c e is = omega arith

-- and it has no flaw, where its length is right
pub flawless_line : (offset kind : ℕ) (bytes : List ℕ) → kind ≤ 5 → has_length kind (length bytes) ≡ true → flaw_of (record_bytes offset kind bytes) ≡ None
unfolding flaw_of
flawless_line offset kind bytes small right =
    let rb = record_bytes offset kind bytes in
    let head = length bytes ∷ offset / 256 ∷ offset % 256 ∷ kind ∷ bytes in
    let total = sums_to_zero head in
    let count : length rb - 5 ≡ length bytes = let e = length-record offset kind bytes in omega arith in
    rw total (rw (le_test kind small) (rw (ap (has_length kind) count ∙ right) refl))
  where
    le_test : (k : ℕ) → k ≤ 5 → nat_le k 5 ≡ true
    le_test k le = grind (arith, nat_tests)
