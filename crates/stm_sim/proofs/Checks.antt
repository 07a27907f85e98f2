-- A whole frame with data or pages has the right check where the exclusive-or of all its bytes is FF.
use Rattle.std.proofs.Common.{◌≡◌, ℕ, suc, ◌+◌, ◌-◌, ◌*◌, ◌<◌, ⊎_elim, Bool, true, false, cond, ◌&&◌, eqb, List, [], ◌∷◌, ◌++◌, length, get_or, take, fold, bit_xor, refl, sym, ap, ◌∙◌, subst, arith, Option, Some, None}
use Rattle.std.specs.Int.Bits.{xor_assoc, xor_self, xor_zero_r}
use Rattle.std.proofs.lemmas.Bool.{and_parts, cases_eq, eq-eqb, eqb-true, lt-leb, ne_eqb}
use Rattle.std.proofs.lemmas.List.{take_all, take_more, take-take}
use Rattle.std.proofs.lemmas.List.Sums.{fold_push}
use Rattle.stm_wire.proofs.Names.{all_exist, ChipData, complement, done_if, fits_inside, is_inside, is_listed, IsOpen, number_of, pair_of, two_byte_numbers, verdict, xor}
use Rattle.stm_wire.specs.declared.verdict.Verdict.{Verdict}
use Rattle.stm_wire.specs.declared.verdict.Verdict.TheVariants.{Refused}
use Rattle.stm_sim.specs.Rest.{named_pages}

xor_from : (s : ℕ) (xs : List ℕ) → fold bit_xor s xs ≡ bit_xor s (xor xs)
xor_from s [] = sym (xor_zero_r s)
xor_from s (x ∷ xs) = xor_from (bit_xor s x) xs ∙ xor_assoc s x (xor xs) ∙ ap (λ r. bit_xor s r) (sym (xor_from x xs))

twice : (a b : ℕ) → bit_xor a (bit_xor a b) ≡ b
twice a b = sym (xor_assoc a a b) ∙ ap (λ r. bit_xor r b) (xor_self a)

-- FF, an exclusive-or and a byte give FF exactly where the byte is that exclusive-or
right : (x last : ℕ) → eqb (bit_xor 255 (bit_xor x last)) 255 ≡ eqb last x
right x last = ⊎_elim
    (λ (same : last ≡ x). eq-eqb _ 255 (ap (λ r. bit_xor 255 (bit_xor x r)) same ∙ ap (λ r. bit_xor 255 r) (xor_self x)) ∙ sym (eq-eqb last x same))
    (λ (other : last ≡ x → ⊥). ne_eqb _ 255 (λ e. other (back e)) ∙ sym (ne_eqb last x other))
    (cases_eq last x)
  where
    back : bit_xor 255 (bit_xor x last) ≡ 255 → last ≡ x
    back e =
        let none : bit_xor x last ≡ 0 = sym (twice 255 (bit_xor x last)) ∙ ap (λ r. bit_xor 255 r) e in
        sym (twice x last) ∙ ap (λ r. bit_xor x r) none ∙ xor_zero_r x

-- what came before gives FF: then all give FF exactly where the last is the exclusive-or of those between
right_check : (s : ℕ) (xs : List ℕ) (n : ℕ) → s ≡ 255 → length xs ≡ n + 1 → eqb (fold bit_xor s xs) 255 ≡ eqb (get_or xs n 0) (xor (take n xs))
right_check s xs n e len =
    let lt : n < length xs = omega arith in
    let parts : xs ≡ take n xs ++ get_or xs n 0 ∷ [] = sym (take_all (n + 1) xs (omega arith)) ∙ take_more xs n 0 lt in
    ap (λ r. eqb r 255) (xor_from s xs ∙ ap (λ r. bit_xor r (xor xs)) e ∙ ap (λ (ys : List ℕ). bit_xor 255 (xor ys)) parts ∙ ap (λ r. bit_xor 255 r) (fold_push bit_xor 0 (take n xs) (get_or xs n 0)))
    ∙ right (xor (take n xs)) (get_or xs n 0)

-- so the verdict on both is one
closing : (s : ℕ) (xs : List ℕ) (n : ℕ) (t : Bool) → s ≡ 255 → length xs ≡ n + 1 → Some (done_if (eqb (get_or xs n 0) (xor (take n xs)) && t)) ≡ Some (done_if (eqb (fold bit_xor s xs) 255 && t))
closing s xs n t e len = ap (λ u. Some (done_if (u && t))) (sym (right_check s xs n e len))

passed : (t : Bool) (x : Option Verdict) (v : Verdict) → cond t x (Some v) ≡ None → t ≡ true
passed true x v e = refl
passed false x v e = cc

-- a code and its complement that end no list
right_pair : (codes : List ℕ) (c x : ℕ) → cond (eqb x (complement c) && is_listed codes c) None (Some Refused) ≡ None → (eqb x (complement c) && is_listed codes c ≡ true) × (x ≡ complement c)
right_pair codes c x e =
    let t = passed (eqb x (complement c) && is_listed codes c) None Refused e in
    (t, eqb-true x (complement c) (and_parts (eqb x (complement c)) (is_listed codes c) t).0)

module _ (chip : ChipData) (codes : List ℕ) where
  pub whole_write : (x a b c d y n : ℕ) (data' : List ℕ) → verdict chip codes (0x31 ∷ x ∷ []) ≡ None → verdict chip codes (0x31 ∷ x ∷ a ∷ b ∷ c ∷ d ∷ y ∷ []) ≡ None → length data' ≡ n + 2
      → verdict chip codes (0x31 ∷ x ∷ a ∷ b ∷ c ∷ d ∷ y ∷ n ∷ data') ≡ Some (done_if (eqb (xor (0x31 ∷ x ∷ a ∷ b ∷ c ∷ d ∷ y ∷ n ∷ data')) 255 && fits_inside chip (number_of a b c d) (n + 1)))
  whole_write x a b c d y n data' p q len =
      let (pair, x_is) = right_pair codes 0x31 x p in
      let bytes = a ∷ b ∷ c ∷ d ∷ [] in
      let q' : cond (eqb y (xor bytes) && is_inside chip (number_of a b c d)) None (Some Refused) ≡ None = rw pair at q in
      let address = passed (eqb y (xor bytes) && is_inside chip (number_of a b c d)) None Refused q' in
      let y_is : y ≡ xor bytes = eqb-true y (xor bytes) (and_parts (eqb y (xor bytes)) (is_inside chip (number_of a b c d)) address).0 in
      let s = bit_xor (fold bit_xor (bit_xor 0x31 x) bytes) y in
      let gives : s ≡ 255 =
      ap (λ r. bit_xor (fold bit_xor (bit_xor 0x31 r) bytes) y) x_is ∙ ap (λ r. bit_xor r y) (xor_from 255 bytes)
      ∙ ap (λ r. bit_xor (bit_xor 255 (xor bytes)) r) y_is ∙ xor_assoc 255 (xor bytes) (xor bytes) ∙ ap (λ r. bit_xor 255 r) (xor_self (xor bytes)) in
      let size : eqb (length data') (n + 2) ≡ true = eq-eqb (length data') (n + 2) len in
      let more : length (n ∷ data') ≡ suc (n + 1) + 1 = omega arith in
      rw (pair, address, size) (closing s (n ∷ data') (suc (n + 1)) (fits_inside chip (number_of a b c d) (n + 1)) gives more)

  pub whole_list : (x n : ℕ) (pages : List ℕ) → verdict chip codes (0x43 ∷ x ∷ []) ≡ None → n < 0xFF → length pages ≡ n + 2
      → verdict chip codes (0x43 ∷ x ∷ n ∷ pages) ≡ Some (done_if (eqb (xor (0x43 ∷ x ∷ n ∷ pages)) 255 && all_exist chip (take (n + 1) pages)))
  whole_list x n pages p lt len =
      let (pair, x_is) = right_pair codes 0x43 x p in
      let few : eqb n 0xFF ≡ false = ne_eqb n 0xFF (λ e. omega arith) in
      let size : eqb (length pages) (n + 2) ≡ true = eq-eqb (length pages) (n + 2) len in
      let more : length (n ∷ pages) ≡ suc (n + 1) + 1 = omega arith in
      rw (pair, few, size) (closing (bit_xor 0x43 x) (n ∷ pages) (suc (n + 1)) (all_exist chip (take (n + 1) pages)) (ap (λ r. bit_xor 0x43 r) x_is) more)

  pub whole_pairs : (x high low : ℕ) (pages : List ℕ) → verdict chip codes (0x44 ∷ x ∷ []) ≡ None → pair_of high low < 0xFFF0 → length pages ≡ 2 * (pair_of high low + 1) + 1
      → verdict chip codes (0x44 ∷ x ∷ high ∷ low ∷ pages)
      ≡ Some (done_if (eqb (xor (0x44 ∷ x ∷ high ∷ low ∷ pages)) 255 && all_exist chip (two_byte_numbers (take (2 * (pair_of high low + 1)) pages))))
  whole_pairs x high low pages p lt len =
      let (pair, x_is) = right_pair codes 0x44 x p in
      let n = 2 * (pair_of high low + 1) in
      let few = lt-leb 0xFFF0 (pair_of high low) lt in
      let some : eqb (pair_of high low) 0xFFFF ≡ false = ne_eqb (pair_of high low) 0xFFFF (λ e. omega arith) in
      let size : eqb (length pages) (n + 1) ≡ true = eq-eqb (length pages) (n + 1) len in
      let more : length (high ∷ low ∷ pages) ≡ suc (suc n) + 1 = omega arith in
      rw (pair, some, few, size) (closing (bit_xor 0x44 x) (high ∷ low ∷ pages) (suc (suc n)) (all_exist chip (two_byte_numbers (take n pages))) (ap (λ r. bit_xor 0x44 r) x_is) more)

  -- no proper beginning of the list has a verdict
  begins : (bytes : List ℕ) → IsOpen chip codes (take (length bytes - 1) bytes) → (n : ℕ) → n < length bytes → verdict chip codes (take n bytes) ≡ None
  begins bytes o n lt = let same = take-take n (length bytes - 1) bytes (omega arith) in rw (← same) (o n)

  pub write_at_end : (bytes : List ℕ) (check : ℕ) → IsOpen chip codes (take (length bytes - 1) bytes) → check ≡ xor bytes → get_or bytes 0 0 ≡ 0x31 → length bytes ≡ get_or bytes 7 0 + 10
      → Some (done_if (eqb check 255 && fits_inside chip (number_of (get_or bytes 2 0) (get_or bytes 3 0) (get_or bytes 4 0) (get_or bytes 5 0)) (get_or bytes 7 0 + 1))) ≡ verdict chip codes bytes
  write_at_end (k ∷ x ∷ a ∷ b ∷ c ∷ d ∷ y ∷ n ∷ data') check o e is len =
      let P : ℕ → Type 0 = λ k. IsOpen chip codes (take (length (k ∷ x ∷ a ∷ b ∷ c ∷ d ∷ y ∷ n ∷ data') - 1) (k ∷ x ∷ a ∷ b ∷ c ∷ d ∷ y ∷ n ∷ data')) → check ≡ xor (k ∷ x ∷ a ∷ b ∷ c ∷ d ∷ y ∷ n ∷ data')
      → Some (done_if (eqb check 255 && fits_inside chip (number_of a b c d) (n + 1))) ≡ verdict chip codes (k ∷ x ∷ a ∷ b ∷ c ∷ d ∷ y ∷ n ∷ data') in
      subst P (sym is) (λ o e.
      let all = 0x31 ∷ x ∷ a ∷ b ∷ c ∷ d ∷ y ∷ n ∷ data' in
      rw e (sym (whole_write x a b c d y n data' (begins all o 2 (omega arith)) (begins all o 7 (omega arith)) (omega arith)))) o e
  write_at_end _ check o e is len = absurd (omega arith)

  pub list_at_end : (bytes : List ℕ) (check : ℕ) (exist : Bool) → IsOpen chip codes (take (length bytes - 1) bytes) → check ≡ xor bytes → exist ≡ all_exist chip (named_pages (take (length bytes - 1) bytes))
      → get_or bytes 0 0 ≡ 0x43 → get_or bytes 2 0 < 0xFF → length bytes ≡ get_or bytes 2 0 + 5
      → Some (done_if (eqb check 255 && exist)) ≡ verdict chip codes bytes
  list_at_end (k ∷ x ∷ n ∷ pages) check exist o e h is few len =
      let P : ℕ → Type 0 = λ k. IsOpen chip codes (take (length (k ∷ x ∷ n ∷ pages) - 1) (k ∷ x ∷ n ∷ pages)) → check ≡ xor (k ∷ x ∷ n ∷ pages)
      → exist ≡ all_exist chip (named_pages (take (length (k ∷ x ∷ n ∷ pages) - 1) (k ∷ x ∷ n ∷ pages)))
      → Some (done_if (eqb check 255 && exist)) ≡ verdict chip codes (k ∷ x ∷ n ∷ pages) in
      subst P (sym is) (λ o e h.
      let all = 0x43 ∷ x ∷ n ∷ pages in
      let size : length all - 1 ≡ suc (suc (suc (n + 1))) = omega arith in
      let named : exist ≡ all_exist chip (take (n + 1) pages) = h ∙ ap (λ m. all_exist chip (named_pages (take m all))) size in
      rw (e, named) (sym (whole_list x n pages (begins all o 2 (omega arith)) few (omega arith)))) o e h
  list_at_end _ check exist o e h is few len = absurd (omega arith)

  pub pairs_at_end : (bytes : List ℕ) (check : ℕ) (exist : Bool) → IsOpen chip codes (take (length bytes - 1) bytes) → check ≡ xor bytes → exist ≡ all_exist chip (named_pages (take (length bytes - 1) bytes))
      → get_or bytes 0 0 ≡ 0x44 → pair_of (get_or bytes 2 0) (get_or bytes 3 0) < 0xFFF0 → length bytes ≡ 2 * (pair_of (get_or bytes 2 0) (get_or bytes 3 0) + 1) + 5
      → Some (done_if (eqb check 255 && exist)) ≡ verdict chip codes bytes
  pairs_at_end (k ∷ x ∷ high ∷ low ∷ pages) check exist o e h is few len =
      let P : ℕ → Type 0 = λ k. IsOpen chip codes (take (length (k ∷ x ∷ high ∷ low ∷ pages) - 1) (k ∷ x ∷ high ∷ low ∷ pages)) → check ≡ xor (k ∷ x ∷ high ∷ low ∷ pages)
      → exist ≡ all_exist chip (named_pages (take (length (k ∷ x ∷ high ∷ low ∷ pages) - 1) (k ∷ x ∷ high ∷ low ∷ pages)))
      → Some (done_if (eqb check 255 && exist)) ≡ verdict chip codes (k ∷ x ∷ high ∷ low ∷ pages) in
      subst P (sym is) (λ o e h.
      let all = 0x44 ∷ x ∷ high ∷ low ∷ pages in
      let n = 2 * (pair_of high low + 1) in
      let size : length all - 1 ≡ suc (suc (suc (suc n))) = omega arith in
      let named : exist ≡ all_exist chip (two_byte_numbers (take n pages)) = h ∙ ap (λ m. all_exist chip (named_pages (take m all))) size in
      rw (e, named) (sym (whole_pairs x high low pages (begins all o 2 (omega arith)) few (omega arith)))) o e h
  pairs_at_end _ check exist o e h is few len = absurd (omega arith)
