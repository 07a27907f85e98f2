-- A byte more of a page list names a page, or completes the two bytes of its number.
use Rattle.std.proofs.Common.{◌≡◌, ℕ, suc, ◌-◌, ◌%◌, true, ◌&&◌, nat_lt, List, [], ◌∷◌, ◌++◌, length, get_or, refl, sym, ap, ◌∙◌, arith}
use Rattle.std.proofs.Math.Bool.{and-true}
use Rattle.std.proofs.lemmas.List.Folds.{list_all-append}
use Rattle.stm_wire.proofs.Names.{all_exist, ChipData, page_count, pair_of, two_byte_numbers}

-- the numbers of two bytes: a first byte names nothing yet
first_byte : (bytes : List ℕ) (low : ℕ) → length bytes % 2 ≡ 0 → two_byte_numbers (bytes ++ low ∷ []) ≡ two_byte_numbers bytes
first_byte [] low even = refl
first_byte (h ∷ []) low even = absurd (omega arith)
first_byte (h ∷ l ∷ bytes) low even = ap (λ (ns : List ℕ). pair_of h l ∷ ns) (first_byte bytes low (omega arith))

-- a second completes the number that the last began
second_byte : (bytes : List ℕ) (low : ℕ) → length bytes % 2 ≡ 1 → two_byte_numbers (bytes ++ low ∷ []) ≡ two_byte_numbers bytes ++ pair_of (get_or bytes (length bytes - 1) 0) low ∷ []
second_byte [] low odd = absurd (omega arith)
second_byte (h ∷ []) low odd = refl
second_byte (h ∷ l ∷ bytes) low odd =
    let last : suc (suc (length bytes)) - 1 ≡ suc (suc (length bytes - 1)) = omega arith in
    ap (λ (ns : List ℕ). pair_of h l ∷ ns) (second_byte bytes low (omega arith))
    ∙ ap (λ i. pair_of h l ∷ (two_byte_numbers bytes ++ pair_of (get_or (h ∷ l ∷ bytes) i 0) low ∷ [])) (sym last)

pub first_exists : (chip : ChipData) (bytes : List ℕ) (low : ℕ) → length bytes % 2 ≡ 0 → all_exist chip (two_byte_numbers (bytes ++ low ∷ [])) ≡ all_exist chip (two_byte_numbers bytes) && true
first_exists chip bytes low even = ap (λ (ns : List ℕ). all_exist chip ns) (first_byte bytes low even) ∙ sym (and-true (all_exist chip (two_byte_numbers bytes)))

pub second_exists : (chip : ChipData) (bytes : List ℕ) (low : ℕ) → length bytes % 2 ≡ 1
    → all_exist chip (two_byte_numbers (bytes ++ low ∷ [])) ≡ all_exist chip (two_byte_numbers bytes) && nat_lt (pair_of (get_or bytes (length bytes - 1) 0) low) (page_count chip)
second_exists chip bytes low odd =
    let n = pair_of (get_or bytes (length bytes - 1) 0) low in
    ap (λ (ns : List ℕ). all_exist chip ns) (second_byte bytes low odd)
    ∙ list_all-append (λ m. nat_lt m (page_count chip)) (two_byte_numbers bytes) (n ∷ [])
    ∙ ap (λ t. all_exist chip (two_byte_numbers bytes) && t) (and-true (nat_lt n (page_count chip)))
