-- How long an open list of bytes can be.
use Rattle.std.proofs.Common.{lit≤, lit<, ◌≡◌, ◌≢◌, ℕ, zero, suc, ◌+◌, ◌-◌, ◌*◌, ◌<◌, ◌≤◌, ⊎_elim, Bool, true, false, cond, ◌&&◌, eqb, leb, List, [], ◌∷◌, ◌++◌, length, get_or, take, drop, refl, sym, subst, ◌∙◌, arith, Option, Some, None}
use Rattle.std.specs.List.{All, AllByRecursion}
use Rattle.std.proofs.lemmas.List.Elements.{All-tail}
use Rattle.std.proofs.lemmas.Bool.{and_parts, cond_both, eq-eqb, eqb-true, leb-false, cases_lt}
use Rattle.std.proofs.lemmas.List.{length-take-le}
use Rattle.stm_wire.proofs.Names.{after_address, all_exist, all_verdict, at_end, can_read, ChipData, command_verdict, complement, done_if, erase_verdict, extended_verdict, fits_inside, is_inside}
use Rattle.stm_wire.proofs.Names.{is_listed, is_readable, IsOpen, number_of, pages_verdict, pair_of, read_verdict, two_byte_numbers, Verdict, write_verdict, xor}
use Rattle.stm_wire.specs.declared.verdict.Verdict.TheVariants.{Done, Refused, Loose}

-- how many bytes a list that begins with this code has at most, of a device with these codes, before the byte that brings its verdict
abbrev pub longest_list : List ℕ → ℕ → ℕ
longest_list codes code = cond (is_listed codes 0x44 && eqb code 0x44) 131044 264

-- each is a byte
abbrev pub IsBytes : List ℕ → Type 0
IsBytes bytes = AllByRecursion (λ byte. byte < 256) bytes

pub by_recursion : (bytes : List ℕ) → All (λ byte. byte < 256) bytes → IsBytes bytes
by_recursion [] all = tt
by_recursion (x ∷ bytes) all = (all 0 0 (omega arith), by_recursion bytes (All-tail (λ byte. byte < 256) x bytes all))

-- the count behind a code and its complement, wherever it is, is a byte
abbrev pub Counted : ℕ → List ℕ → Type 0
Counted c ys = (eqb c 0x31 ≡ true → get_or (drop 5 ys) 0 0 < 256) × (eqb c 0x43 ≡ true → get_or ys 0 0 < 256)

-- in a whole list
abbrev pub IsCounted : List ℕ → Type 0
IsCounted (c ∷ x ∷ ys) = Counted c ys
IsCounted _ = Unit {0}

first_byte : (n : ℕ) (ys : List ℕ) → IsBytes ys → get_or (drop n ys) 0 0 < 256
first_byte zero [] by = lit< tt
first_byte zero (y ∷ ys) by = by.0
first_byte (suc n) [] by = lit< tt
first_byte (suc n) (y ∷ ys) by = first_byte n ys by.1

pub counted : (bytes : List ℕ) → IsBytes bytes → IsCounted bytes
counted (c ∷ x ∷ ys) by = (λ _. first_byte 5 ys by.1.1, λ _. first_byte 0 ys by.1.1)
counted _ by = tt

first_more : (n : ℕ) (ys : List ℕ) (byte : ℕ) → byte < 256 → get_or (drop n ys) 0 0 < 256 → get_or (drop n (ys ++ byte ∷ [])) 0 0 < 256
first_more zero [] byte small h = small
first_more zero (y ∷ ys) byte small h = h
first_more (suc zero) [] byte small h = lit< tt
first_more (suc (suc n)) [] byte small h = lit< tt
first_more (suc n) (y ∷ ys) byte small h = first_more n ys byte small h

-- where a count may follow the code, the byte can be one
abbrev pub CanCount : ℕ → ℕ → Type 0
CanCount c byte = (eqb c 0x31 ≡ true → byte < 256) × (eqb c 0x43 ≡ true → byte < 256)

pub counted_more : (c : ℕ) (rest : List ℕ) (byte : ℕ) → CanCount c byte → IsCounted (c ∷ rest) → IsCounted (c ∷ (rest ++ byte ∷ []))
counted_more c [] byte can by = (λ _. lit< tt, λ _. lit< tt)
counted_more c (x ∷ ys) byte can by = (λ e. first_more 5 ys byte (can.0 e) (by.0 e), λ e. first_more 0 ys byte (can.1 e) (by.1 e))

-- a list at no beginning of which f has a verdict has at most n bytes
abbrev Opens : (List ℕ → Option Verdict) → ℕ → List ℕ → Type 0
Opens f n ys = ((j : ℕ) → f (take j ys) ≡ None) → length ys ≤ n

some≢none : (v : Verdict) → Some v ≢ None
some≢none v e = cc

-- a verdict at the end of a list is one of its beginning without bytes
opens_end : (v : Verdict) (n : ℕ) (ys : List ℕ) → Opens (at_end v) n ys
opens_end v n ys none = absurd (some≢none v (none 0))

-- the same of a verdict for each length
abbrev Never : (ℕ → Option Verdict) → ℕ → List ℕ → Type 0
Never f n ys = ((j : ℕ) → f j ≡ None) → length ys ≤ n

never_cond : (t : Bool) (f g : ℕ → Option Verdict) (n : ℕ) (ys : List ℕ) → Never f n ys → Never g n ys → Never (λ j. cond t (f j) (g j)) n ys
never_cond true f g n ys a b = a
never_cond false f g n ys a b = b

opens_more : (f : List ℕ → Option Verdict) (m n : ℕ) (ys : List ℕ) → m ≤ n → Opens f m ys → Opens f n ys
opens_more f m n ys le o none = let h = o none in omega arith

opens_address : (takes : ℕ → Bool) (next : ℕ → List ℕ → Option Verdict) (n : ℕ) (P : List ℕ → Type 0) → ((a : ℕ) (ys : List ℕ) → P ys → Opens (next a) n ys) →
    (ys : List ℕ) → P (drop 5 ys) → Opens (after_address takes next) (5 + n) ys
opens_address takes next n P f (a ∷ b ∷ c ∷ d ∷ x ∷ ys) by = λ none.
    let h : length ys ≤ n =
    never_cond (eqb x (xor (a ∷ b ∷ c ∷ d ∷ [])) && takes (number_of a b c d)) _ _ n ys
    (f (number_of a b c d) ys by) (opens_end Refused n ys) (λ j. none (suc (suc (suc (suc (suc j))))))
    in omega arith
opens_address takes next n P f _ by = λ none. omega arith

opens_read : (chip : ChipData) (a : ℕ) (ys : List ℕ) → Opens (read_verdict chip a) 1 ys
opens_read chip a (n ∷ x ∷ ys) = λ none. absurd (some≢none (done_if (eqb x (complement n) && can_read chip a (n + 1))) (none 2))
opens_read chip a _ = λ none. omega arith

-- a test of the length that the list of this length passes
exact : (v : Verdict) (n : ℕ) (ys : List ℕ) → length ys ≡ n → cond (eqb (length ys) n) (Some v) None ≢ None
exact v n ys e none = some≢none v (sym (yes (eqb (length ys) n) (eq-eqb (length ys) n e)) ∙ none)
  where
    yes : (t : Bool) → t ≡ true → cond t (Some v) None ≡ Some v
    yes t e = rw e refl

opens_write : (chip : ChipData) (a : ℕ) (ys : List ℕ) → get_or ys 0 0 < 256 → Opens (write_verdict chip a) 257 ys
opens_write chip a [] by = λ none. omega arith
opens_write chip a (n ∷ ys) by = λ none. let small : n < 256 = by in ⊎_elim (λ lt. omega arith) (λ le.
    let part = take (n + 2) ys in
    absurd (exact (done_if (eqb (get_or part (n + 1) 0) (xor (n ∷ take (n + 1) part)) && fits_inside chip a (n + 1))) (n + 2) part (length-take-le (n + 2) ys le) (none (suc (n + 2)))))
    (cases_lt (length ys) (n + 2))

opens_all : (n : ℕ) (ys : List ℕ) → Opens all_verdict n ys
opens_all n [] = λ none. omega arith
opens_all n (x ∷ ys) = λ none. absurd (some≢none (done_if (eqb x 0)) (none 1))

opens_list : (chip : ChipData) (n : ℕ) (ys : List ℕ) → n < 256 →
    Opens (λ zs. cond (eqb (length zs) (n + 2)) (Some (done_if (eqb (get_or zs (n + 1) 0) (xor (n ∷ take (n + 1) zs)) && all_exist chip (take (n + 1) zs)))) None) 257 ys
opens_list chip n ys small = λ none. ⊎_elim (λ lt. omega arith) (λ le.
    let part = take (n + 2) ys in
    absurd (exact (done_if (eqb (get_or part (n + 1) 0) (xor (n ∷ take (n + 1) part)) && all_exist chip (take (n + 1) part))) (n + 2) part (length-take-le (n + 2) ys le) (none (n + 2))))
    (cases_lt (length ys) (n + 2))

opens_erase : (chip : ChipData) (ys : List ℕ) → get_or ys 0 0 < 256 → Opens (erase_verdict chip) 258 ys
opens_erase chip [] by = λ none. omega arith
opens_erase chip (n ∷ ys) by = λ none.
    let h : length ys ≤ 257 = never_cond (eqb n 0xFF) _ _ 257 ys (opens_all 257 ys) (opens_list chip n ys by) (λ j. none (suc j)) in omega arith

opens_pages : (chip : ChipData) (count : List ℕ) (size n : ℕ) (ys : List ℕ) → size ≤ n → Opens (pages_verdict chip count size) n ys
opens_pages chip count size n ys le = λ none. ⊎_elim (λ lt. omega arith) (λ long.
    let part = take (size + 1) ys in
    absurd (exact (done_if (eqb (get_or part size 0) (xor (count ++ take size part)) && all_exist chip (two_byte_numbers (take size part)))) (size + 1) part (length-take-le (size + 1) ys long) (none (size + 1))))
    (cases_lt (length ys) (size + 1))

opens_loose : (n : ℕ) (ys : List ℕ) → Opens (λ zs. cond (eqb (length zs) 1) (Some Loose) None) n ys
opens_loose n [] = λ none. omega arith
opens_loose n (y ∷ ys) = λ none. absurd (some≢none Loose (none 1))

-- the longest has a count of two bytes, 65,520 numbers of two, and waits for its check
abbrev pub longest : ℕ
longest = 131042

opens_extended : (chip : ChipData) (ys : List ℕ) → Opens (extended_verdict chip) longest ys
opens_extended chip (h ∷ l ∷ ys) = λ none.
    let n = pair_of h l in
    let h : length ys ≤ 131040 =
    never_cond (eqb n 0xFFFF) _ _ 131040 ys (opens_all 131040 ys) (rest (leb 0xFFF0 n) (leb-false 0xFFF0 n)) (λ j. none (suc (suc j)))
    in omega arith
  where
    rest : (t : Bool) → (t ≡ false → pair_of h l < 0xFFF0) → Opens (λ zs. cond t (cond (eqb (length zs) 1) (Some Loose) None) (pages_verdict chip (h ∷ l ∷ []) (2 * (pair_of h l + 1)) zs)) 131040 ys
    rest true few = opens_loose 131040 ys
    rest false few = let lt = few refl in opens_pages chip (h ∷ l ∷ []) (2 * (pair_of h l + 1)) 131040 ys (omega arith)
opens_extended chip _ = λ none. omega arith

-- in the branch that is taken, the test passed
never_when : (t : Bool) (f g : ℕ → Option Verdict) (n : ℕ) (ys : List ℕ) → (t ≡ true → Never f n ys) → Never g n ys → Never (λ j. cond t (f j) (g j)) n ys
never_when true f g n ys a b = a refl
never_when false f g n ys a b = b

opens_command : (chip : ChipData) (c n : ℕ) (ys : List ℕ) → Counted c ys → 262 ≤ n → (eqb c 0x44 ≡ true → longest ≤ n) → Opens (command_verdict chip c) n ys
opens_command chip c n ys by most extended =
    never_cond (eqb c 0x00) _ _ n ys (opens_end Done n ys)
    (never_cond (eqb c 0x02) _ _ n ys (opens_end Done n ys)
    (never_cond (eqb c 0x11) _ _ n ys (opens_more (after_address (is_readable chip) (read_verdict chip)) 6 n ys (omega arith) (opens_address (is_readable chip) (read_verdict chip) 1 (λ _. Unit {0}) (λ a zs b. opens_read chip a zs) ys tt))
    (never_cond (eqb c 0x21) _ _ n ys (opens_more (after_address (is_inside chip) (λ a zs. at_end Done zs)) 5 n ys (omega arith) (opens_address (is_inside chip) (λ a zs. at_end Done zs) 0 (λ _. Unit {0}) (λ a zs b. opens_end Done 0 zs) ys tt))
    (never_when (eqb c 0x31) _ _ n ys (λ is. opens_more (after_address (is_inside chip) (write_verdict chip)) 262 n ys most (opens_address (is_inside chip) (write_verdict chip) 257 (λ zs. get_or zs 0 0 < 256) (opens_write chip) ys (by.0 is)))
    (never_when (eqb c 0x43) _ _ n ys (λ is. opens_more (erase_verdict chip) 258 n ys (omega arith) (opens_erase chip ys (by.1 is)))
    (never_when (eqb c 0x44) _ _ n ys (λ is. opens_more (extended_verdict chip) longest n ys (extended is) (opens_extended chip ys)) (opens_end Loose n ys)))))))

pub list_least : (codes : List ℕ) (c : ℕ) → 264 ≤ longest_list codes c
list_least codes c = cond_both (is_listed codes 0x44 && eqb c 0x44) 131044 264 (λ n. 264 ≤ n) (λ _. lit≤ tt) (λ _. lit≤ tt)

pub list_most : (codes : List ℕ) (c : ℕ) → longest_list codes c ≤ 131044
list_most codes c = cond_both (is_listed codes 0x44 && eqb c 0x44) 131044 264 (λ n. n ≤ 131044) (λ _. lit≤ tt) (λ _. lit≤ tt)

-- where no erase takes two bytes a page, all lists are short
pub list_short : (codes : List ℕ) (c : ℕ) → is_listed codes 0x44 ≡ false → longest_list codes c ≡ 264
list_short codes c none = rw none refl

list_long : (codes : List ℕ) (c : ℕ) → is_listed codes c ≡ true → eqb c 0x44 ≡ true → longest_list codes c ≡ 131044
list_long codes c listed is =
    let same : c ≡ 0x44 = eqb-true c 0x44 is in
    let here : is_listed codes 0x44 ≡ true = subst (λ (k : ℕ). is_listed codes k ≡ true) same listed in
    rw (here, is) refl

pub open_short : (chip : ChipData) (codes : List ℕ) (c x : ℕ) (ys : List ℕ) → IsCounted (c ∷ x ∷ ys) → IsOpen chip codes (c ∷ x ∷ ys) → length (c ∷ x ∷ ys) ≤ longest_list codes c
open_short chip codes c x ys by open' =
    let least = list_least codes c in
    let n = longest_list codes c - 2 in
    let h : length ys ≤ n =
    never_when (eqb x (complement c) && is_listed codes c) _ _ n ys
    (λ pair. opens_command chip c n ys by (omega arith) (λ is. let l = list_long codes c (and_parts (eqb x (complement c)) (is_listed codes c) pair).1 is in omega arith))
    (opens_end Refused n ys) (λ j. open' (suc (suc j)))
    in omega arith
