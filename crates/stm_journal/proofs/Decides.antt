-- A summary decides its line.
use Rattle.std.proofs.Common.{◌≡◌, ◌≢◌, ◌≤◌, ◌<◌, ℕ, zero, suc, ◌+◌, ◌-◌, ◌/◌, ◌%◌, Bool, true, false, not, ◌==◌, ◌&&◌, nat_le, nat_lt, if◌then◌else◌, cond, List, [], ◌∷◌, length, take, drop, codes, Option, Some, None, option_map, refl, sym, ◌∙◌, ap, inl, inr, ⊎_elim, arith, take_all, length-drop}
use Rattle.std.specs.Prelude.{option_and_then, position, bytes_eq}
use Rattle.std.specs.List.{list_all, position_or_len}
use Rattle.std.proofs.lemmas.Bool.{cases_Bool, cases_lt}
use Rattle.std.proofs.lemmas.Bool.Decides.{nat_tests}
use Rattle.std.proofs.lemmas.List.{take-take, drop-take, drop-drop, take-append-drop, length-take-le}
use Rattle.std.proofs.lemmas.List.Folds.{list_all-append}
use Rattle.stm_journal.proofs.Names.{behind, blank, board_at, board_header_of, board_of_fields, decimal_of, Entry, entry_of, forget_entry, header_of, hex_bytes_of, id_of, is_upper_digit}
use Rattle.stm_journal.proofs.Names.{kept_entry_of, long_at, long_page, number_of_pair, numbered_entry_of, page_at, page_of_fields, page_with, said_by, summary_of, unique_id_of, worded}
use Rattle.stm_journal.specs.declared.entry.Entry.TheVariants.{Names, Opens, Keeps, Erases, Programs, Ends, Undoes}
use Rattle.stm_wire.proofs.Names.{is_unique_length}
use Rattle.stm_journal.proofs.Long.{number_of-long}
use Rattle.stm_journal.proofs.Upper.{hex_bytes_of-even, hex_bytes_of-odd, hex_bytes_of-lower}

-- the first space of a beginning
abbrev space_in : List ℕ → ℕ
space_in xs = position_or_len (λ b. b == 32) xs

space-take : (k : ℕ) (xs : List ℕ) → space_in xs < k → space_in (take k xs) ≡ space_in xs
space-take zero xs lt = absurd (omega (arith, lt))
space-take (suc k) [] lt = refl
space-take (suc k) (x ∷ xs) lt = at (x == 32) (λ h. space-take k xs h) lt
  where
    at : (b : Bool) → (space_in xs < k → space_in (take k xs) ≡ space_in xs) → cond (not b) (1 + space_in xs) 0 < suc k → cond (not b) (1 + space_in (take k xs)) 0 ≡ cond (not b) (1 + space_in xs) 0
    at true rest h = refl
    at false rest h = ap (λ (n : ℕ). 1 + n) (rest (omega (arith, h)))

space-far : (k : ℕ) (xs : List ℕ) → k ≤ space_in xs → k ≤ length xs → space_in (take k xs) ≡ k
space-far zero xs le fits = refl
space-far (suc k) [] le fits = absurd (omega (arith, fits))
space-far (suc k) (x ∷ xs) le fits = at (x == 32) (λ h. space-far k xs h (omega (arith, fits))) le
  where
    at : (b : Bool) → (k ≤ space_in xs → space_in (take k xs) ≡ k) → suc k ≤ cond (not b) (1 + space_in xs) 0 → cond (not b) (1 + space_in (take k xs)) 0 ≡ suc k
    at true rest h = absurd (omega (arith, h))
    at false rest h = omega (arith, rest (omega (arith, h)))

no-page : (o : Option (List ℕ)) → page_of_fields None o ≡ None
no-page None = refl
no-page (Some bytes) = refl

-- a page line's digits, some of which stand in the beginning
forgets : (n : ℕ) (ds : List ℕ) (m : ℕ) → 0 < length ds → m ≡ length ds → (o : Option ℕ)
    → option_map forget_entry (page_of_fields o (hex_bytes_of ds)) ≡ (if list_all is_upper_digit ds then page_with o m else None)
forgets n ds m some same o = elim (cases_Bool (list_all is_upper_digit ds)) [
  | inl upper ↦ elim (cases_Bool (m % 2 == 0)) [
    | inl even ↦
        let half : length ds % 2 ≡ 0 = is-even m even (length ds) same in
        let b = hex_bytes_of-even ds some half upper in
        is-page upper even b.0 b.1 (b.2 ∙ ap (λ (k : ℕ). k / 2) (sym same))
    | inr odd ↦
        let half : length ds % 2 ≡ 1 = is-odd m odd (length ds) same in
        not-page upper odd (hex_bytes_of-odd ds half)
  ]
  | inr lower ↦ ap (λ (x : Option (List ℕ)). option_map forget_entry (page_of_fields o x)) (hex_bytes_of-lower ds lower) ∙ none o ∙ sym (ap (λ (b : Bool). if b then page_with o m else None) lower)
]
  where
    is-even : (m : ℕ) → (m % 2 == 0) ≡ true → (k : ℕ) → m ≡ k → k % 2 ≡ 0
    is-even m h k e = let z : m % 2 ≡ 0 = grind (arith, nat_tests) in sym (ap (λ (x : ℕ). x % 2) e) ∙ z

    is-odd : (m : ℕ) → (m % 2 == 0) ≡ false → (k : ℕ) → m ≡ k → k % 2 ≡ 1
    is-odd m h k e = let z : m % 2 ≢ 0 = grind (arith, nat_tests) in let y : m % 2 ≡ 1 = omega (arith, z) in sym (ap (λ (x : ℕ). x % 2) e) ∙ y

    none : (o : Option ℕ) → option_map forget_entry (page_of_fields o None) ≡ None
    none None = refl
    none (Some k) = refl

    page : (o : Option ℕ) (bytes : List ℕ) → length bytes ≡ m / 2 → option_map forget_entry (page_of_fields o (Some bytes)) ≡ (elim o as (λ _. Option Entry) [ None ↦ None | Some k ↦ Some (Keeps k (blank (m / 2))) ])
    page None bytes e = refl
    page (Some k) bytes e = ap (λ (x : ℕ). Some (Keeps k (blank x))) e

    with-even : (o : Option ℕ) → (m % 2 == 0) ≡ true → page_with o m ≡ (elim o as (λ _. Option Entry) [ None ↦ None | Some k ↦ Some (Keeps k (blank (m / 2))) ])
    with-even None h = refl
    with-even (Some k) h = ap (λ (b : Bool). if b then Some (Keeps k (blank (m / 2))) else None) h

    with-odd : (o : Option ℕ) → (m % 2 == 0) ≡ false → page_with o m ≡ None
    with-odd None h = refl
    with-odd (Some k) h = ap (λ (b : Bool). if b then Some (Keeps k (blank (m / 2))) else None) h

    is-page : list_all is_upper_digit ds ≡ true → (m % 2 == 0) ≡ true → (bytes : List ℕ) → hex_bytes_of ds ≡ Some bytes → length bytes ≡ m / 2
        → option_map forget_entry (page_of_fields o (hex_bytes_of ds)) ≡ (if list_all is_upper_digit ds then page_with o m else None)
    is-page upper even bytes is count =
        ap (λ (x : Option (List ℕ)). option_map forget_entry (page_of_fields o x)) is ∙ page o bytes count ∙ sym (with-even o even) ∙ sym (ap (λ (b : Bool). if b then page_with o m else None) upper)

    not-page : list_all is_upper_digit ds ≡ true → (m % 2 == 0) ≡ false → hex_bytes_of ds ≡ None
        → option_map forget_entry (page_of_fields o (hex_bytes_of ds)) ≡ (if list_all is_upper_digit ds then page_with o m else None)
    not-page upper odd is =
        ap (λ (x : Option (List ℕ)). option_map forget_entry (page_of_fields o x)) is ∙ none o ∙ sym (with-odd o odd) ∙ sym (ap (λ (b : Bool). if b then page_with o m else None) upper)

-- the same, of digits that are cut in two
split-upper : (k : ℕ) (ds : List ℕ) (x : Option Entry)
    → (if list_all is_upper_digit ds then x else None) ≡ (if list_all is_upper_digit (drop k ds) then (if list_all is_upper_digit (take k ds) then x else None) else None)
split-upper k ds x =
    ap (λ (xs : List ℕ). if list_all is_upper_digit xs then x else None) (sym (take-append-drop k ds))
    ∙ ap (λ (b : Bool). if b then x else None) (list_all-append is_upper_digit (take k ds) (drop k ds))
    ∙ at (list_all is_upper_digit (take k ds)) (list_all is_upper_digit (drop k ds))
  where
    at : (a b : Bool) → (if a && b then x else None) ≡ (if b then (if a then x else None) else None)
    at true true = refl
    at true false = refl
    at false true = refl
    at false false = refl

-- what follows `page ` of a long line
if-none : (b : Bool) → (if b then (let o : Option Entry = None in o) else None) ≡ None
if-none true = refl
if-none false = refl

position-none : (xs : List ℕ) → length xs ≤ space_in xs → position (λ b. b == 32) xs ≡ None
position-none xs le = let t : nat_lt (space_in xs) (length xs) ≡ false = not-lt (space_in xs) (length xs) le in rw t refl
  where
    not-lt : (a b : ℕ) → b ≤ a → nat_lt a b ≡ false
    not-lt a b le = grind (arith, nat_tests)

position-some : (xs : List ℕ) → space_in xs < length xs → position (λ b. b == 32) xs ≡ Some (space_in xs)
position-some xs lt = let t : nat_lt (space_in xs) (length xs) ≡ true = is-lt (space_in xs) (length xs) lt in rw t refl
  where
    is-lt : (a b : ℕ) → a < b → nat_lt a b ≡ true
    is-lt a b lt = grind (arith, nat_tests)

long-rest : (rest : List ℕ) → 77 < length rest
    → option_map forget_entry (kept_entry_of rest) ≡ (if list_all is_upper_digit (drop 77 rest) then long_at (take 77 rest) (length rest - 77) (position (λ b. b == 32) (take 77 rest)) else None)
long-rest rest many = ⊎_elim near far (cases_lt (space_in rest) 77)
  where
    i : ℕ
    i = space_in rest

    short : length (take 77 rest) ≡ 77
    short = length-take-le 77 rest (omega (arith, many))

    near : space_in rest < 77 → option_map forget_entry (kept_entry_of rest) ≡ (if list_all is_upper_digit (drop 77 rest) then long_at (take 77 rest) (length rest - 77) (position (λ b. b == 32) (take 77 rest)) else None)
    near lt =
        let k : ℕ = 77 - (i + 1) in
        let ds : List ℕ = drop (i + 1) rest in
        let whole : (i + 1) + k ≡ 77 = omega (arith, lt) in
        let front : drop (i + 1) (take 77 rest) ≡ take k ds = ap (λ (n : ℕ). drop (i + 1) (take n rest)) (sym whole) ∙ drop-take (i + 1) k rest in
        let back : drop k ds ≡ drop 77 rest = drop-drop k (i + 1) rest ∙ ap (λ (n : ℕ). drop n rest) whole in
        let count : length (take k ds) + (length rest - 77) ≡ length ds = omega (arith, many, lt, length-drop (i + 1) rest, length-take-le k ds (omega (arith, many, lt, length-drop (i + 1) rest))) in
        let some : 0 < length ds = omega (arith, many, lt, length-drop (i + 1) rest) in
        let found : position (λ b. b == 32) (take 77 rest) ≡ Some i = position-some (take 77 rest) (omega (arith, lt, short, space-take 77 rest lt)) ∙ ap (λ (n : ℕ). Some n) (space-take 77 rest lt) in
        let number : take i (take 77 rest) ≡ take i rest = take-take i 77 rest (omega (arith, lt)) in
        ap (λ (o : Option ℕ). option_map forget_entry (page_at rest o)) (position-some rest (omega (arith, many, lt)))
        ∙ forgets i ds (length (take k ds) + (length rest - 77)) some count (decimal_of (take i rest))
        ∙ split-upper k ds (page_with (decimal_of (take i rest)) (length (take k ds) + (length rest - 77)))
        ∙ ap (λ (xs : List ℕ). if list_all is_upper_digit xs then (if list_all is_upper_digit (take k ds) then page_with (decimal_of (take i rest)) (length (take k ds) + (length rest - 77)) else None) else None) back
        ∙ sym (ap (λ (o : Option ℕ). if list_all is_upper_digit (drop 77 rest) then long_at (take 77 rest) (length rest - 77) o else None) found
        ∙ ap (λ (xs : List ℕ). if list_all is_upper_digit (drop 77 rest) then (if list_all is_upper_digit xs then page_with (decimal_of (take i (take 77 rest))) (length xs + (length rest - 77)) else None) else None) front
        ∙ ap (λ (xs : List ℕ). if list_all is_upper_digit (drop 77 rest) then (if list_all is_upper_digit (take k ds) then page_with (decimal_of xs) (length (take k ds) + (length rest - 77)) else None) else None) number)

    said-none : 77 ≤ space_in rest → option_map forget_entry (kept_entry_of rest) ≡ None
    said-none le = ⊎_elim
        (λ lt.
        let long : decimal_of (take i rest) ≡ None = number_of-long (take i rest) (omega (arith, le, lt, length-take-le i rest (omega (arith, lt)))) in
        ap (λ (o : Option ℕ). option_map forget_entry (page_at rest o)) (position-some rest lt)
        ∙ ap (λ (o : Option ℕ). option_map forget_entry (page_of_fields o (hex_bytes_of (drop (i + 1) rest)))) long
        ∙ ap (λ (o : Option Entry). option_map forget_entry o) (no-page (hex_bytes_of (drop (i + 1) rest))))
        (λ ge. ap (λ (o : Option ℕ). option_map forget_entry (page_at rest o)) (position-none rest ge))
        (cases_lt (space_in rest) (length rest))

    far : 77 ≤ space_in rest → option_map forget_entry (kept_entry_of rest) ≡ (if list_all is_upper_digit (drop 77 rest) then long_at (take 77 rest) (length rest - 77) (position (λ b. b == 32) (take 77 rest)) else None)
    far le =
        let lost : position (λ b. b == 32) (take 77 rest) ≡ None = position-none (take 77 rest) (omega (arith, short, space-far 77 rest le (omega (arith, many)))) in
        said-none le ∙ sym (ap (λ (o : Option ℕ). if list_all is_upper_digit (drop 77 rest) then long_at (take 77 rest) (length rest - 77) o else None) lost ∙ if-none (list_all is_upper_digit (drop 77 rest)))

-- what is no page line says nothing where it is long
behind-long : (word line : List ℕ) (k : ℕ) (rest : List ℕ) → length word ≡ k → behind word line ≡ Some rest → rest ≡ drop k line
behind-long word line k rest size is = at (bytes_eq (take (length word) line) word) is ∙ ap (λ (n : ℕ). drop n line) size
  where
    at : (b : Bool) → (if b then Some (drop (length word) line) else None) ≡ Some rest → rest ≡ drop (length word) line
    at true h = sym (Some-injective h)
      where
        Some-injective : {x y : List ℕ} → Some x ≡ Some y → x ≡ y
        Some-injective h = cc h
    at false h = cc h

worded-none : (word : List ℕ) (said : List ℕ → Option Entry) (line : List ℕ) (other : Option Entry) → ((rest : List ℕ) → behind word line ≡ Some rest → said rest ≡ None) → other ≡ None → worded word said line other ≡ None
worded-none word said line other none left = at (behind word line) none
  where
    at : (o : Option (List ℕ)) → ((rest : List ℕ) → o ≡ Some rest → said rest ≡ None) → (elim o as (λ _. Option Entry) [ None ↦ other | Some rest ↦ said rest ]) ≡ None
    at None h = left
    at (Some rest) h = h rest refl

numbered-none : (word : List ℕ) (line : List ℕ) (k : ℕ) (f : ℕ → Entry) → length word ≡ k → k ≤ 11 → 82 < length line → (rest : List ℕ) → behind word line ≡ Some rest → option_map f (decimal_of rest) ≡ None
numbered-none word line k f size few many rest is =
    let e : rest ≡ drop k line = behind-long word line k rest size is in
    let long : 6 ≤ length rest = omega (arith, many, few, ap (λ (xs : List ℕ). length xs) e, length-drop k line) in
    ap (λ (o : Option ℕ). option_map f o) (number_of-long rest long)

long-pair : (bytes : List ℕ) → 2 < length bytes → number_of_pair bytes ≡ None
long-pair [] many = refl
long-pair (a ∷ []) many = refl
long-pair (a ∷ b ∷ []) many = absurd (omega (arith, many))
long-pair (a ∷ b ∷ c ∷ bytes) many = refl

is-even : (m : ℕ) → (m % 2 == 0) ≡ true → m % 2 ≡ 0
is-even m h = grind (arith, nat_tests)

is-odd : (m : ℕ) → (m % 2 == 0) ≡ false → m % 2 ≡ 1
is-odd m h = let z : m % 2 ≢ 0 = grind (arith, nat_tests) in omega (arith, z)

-- more digits than four are no id
id-none : (digits : List ℕ) → 4 < length digits → id_of digits ≡ None
id-none digits many = elim (cases_Bool (list_all is_upper_digit digits)) [
  | inl upper ↦ elim (cases_Bool (length digits % 2 == 0)) [
    | inl even ↦
        let b = hex_bytes_of-even digits (omega (arith, many)) (is-even (length digits) even) upper in
        ap (λ (o : Option (List ℕ)). option_and_then number_of_pair o) b.1 ∙ long-pair b.0 (omega (arith, many, b.2, is-even (length digits) even))
    | inr odd ↦ ap (λ (o : Option (List ℕ)). option_and_then number_of_pair o) (hex_bytes_of-odd digits (is-odd (length digits) odd))
  ]
  | inr lower ↦ ap (λ (o : Option (List ℕ)). option_and_then number_of_pair o) (hex_bytes_of-lower digits lower)
]

header-none : (version : ℕ) (rest : List ℕ) → 4 < length rest → header_of version rest ≡ None
header-none version rest many = ap (λ (o : Option ℕ). option_map (λ id. Names version id []) o) (id-none rest many)

-- more digits than 64 are no unique id
long-unique : (bytes : List ℕ) → 32 < length bytes → (if is_unique_length (length bytes) then Some bytes else None) ≡ None
long-unique bytes many = ap (λ (b : Bool). if b then Some bytes else None) (not-unique (length bytes) many)
  where
    not-unique : (n : ℕ) → 32 < n → is_unique_length n ≡ false
    not-unique n many = grind (arith, nat_tests)

unique-none : (digits : List ℕ) → 64 < length digits → unique_id_of digits ≡ None
unique-none digits many = elim (cases_Bool (list_all is_upper_digit digits)) [
  | inl upper ↦ elim (cases_Bool (length digits % 2 == 0)) [
    | inl even ↦
        let b = hex_bytes_of-even digits (omega (arith, many)) (is-even (length digits) even) upper in
        ap sized b.1 ∙ long-unique b.0 (omega (arith, many, b.2, is-even (length digits) even))
    | inr odd ↦ ap sized (hex_bytes_of-odd digits (is-odd (length digits) odd))
  ]
  | inr lower ↦ ap sized (hex_bytes_of-lower digits lower)
]
  where
    sized : Option (List ℕ) → Option (List ℕ)
    sized o = option_and_then (λ bytes. if is_unique_length (length bytes) then Some bytes else None) o

no-id : (u : Option (List ℕ)) → board_of_fields None u ≡ None
no-id u = refl

no-unique : (o : Option ℕ) → board_of_fields o None ≡ None
no-unique None = refl
no-unique (Some id) = refl

-- a header of version 3 is never so long
board-none : (rest : List ℕ) → 69 < length rest → board_header_of rest ≡ None
board-none rest many = ⊎_elim
    (λ lt. ap (λ (o : Option ℕ). board_at rest o) (position-some rest lt) ∙ ⊎_elim (far lt) near (cases_lt 4 i))
    (λ ge. ap (λ (o : Option ℕ). board_at rest o) (position-none rest ge))
    (cases_lt (space_in rest) (length rest))
  where
    i : ℕ
    i = space_in rest

    far : space_in rest < length rest → 4 < space_in rest → board_at rest (Some (space_in rest)) ≡ None
    far lt long =
        ap (λ (o : Option ℕ). board_of_fields o (unique_id_of (drop (i + 1) rest)))
        (id-none (take i rest) (omega (arith, long, length-take-le i rest (omega (arith, lt)))))
        ∙ no-id (unique_id_of (drop (i + 1) rest))

    near : space_in rest ≤ 4 → board_at rest (Some (space_in rest)) ≡ None
    near few =
        ap (λ (u : Option (List ℕ)). board_of_fields (id_of (take i rest)) u) (unique-none (drop (i + 1) rest) (omega (arith, few, many, length-drop (i + 1) rest)))
        ∙ no-unique (id_of (take i rest))

-- what follows the words of a page line
abbrev other_of : List ℕ → Option Entry
other_of line =
    worded (codes "stmjournal 1 ") (header_of 1) line (worded (codes "stmjournal 2 ") (header_of 2) line (worded (codes "stmjournal 3 ") board_header_of line (numbered_entry_of line)))

other-none : (line : List ℕ) → 82 < length line → other_of line ≡ None
other-none line many =
    worded-none (codes "stmjournal 1 ") (header_of 1) line (worded (codes "stmjournal 2 ") (header_of 2) line (worded (codes "stmjournal 3 ") board_header_of line (numbered_entry_of line)))
    (λ rest is.
    let e : rest ≡ drop 13 line = behind-long (codes "stmjournal 1 ") line 13 rest refl is in
    header-none 1 rest (omega (arith, many, ap (λ (xs : List ℕ). length xs) e, length-drop 13 line)))
    (worded-none (codes "stmjournal 2 ") (header_of 2) line (worded (codes "stmjournal 3 ") board_header_of line (numbered_entry_of line))
    (λ rest is.
    let e : rest ≡ drop 13 line = behind-long (codes "stmjournal 2 ") line 13 rest refl is in
    header-none 2 rest (omega (arith, many, ap (λ (xs : List ℕ). length xs) e, length-drop 13 line)))
    (worded-none (codes "stmjournal 3 ") board_header_of line (numbered_entry_of line)
    (λ rest is.
    let e : rest ≡ drop 13 line = behind-long (codes "stmjournal 3 ") line 13 rest refl is in
    board-none rest (omega (arith, many, ap (λ (xs : List ℕ). length xs) e, length-drop 13 line)))
    (worded-none (codes "open ") _ line _ (numbered-none (codes "open ") line 5 (λ n. Opens n) refl (omega arith) many)
    (worded-none (codes "erase ") _ line _ (numbered-none (codes "erase ") line 6 (λ n. Erases n) refl (omega arith) many)
    (worded-none (codes "program ") _ line _ (numbered-none (codes "program ") line 8 (λ n. Programs n) refl (omega arith) many)
    (worded-none (codes "end ") _ line _ (numbered-none (codes "end ") line 4 (λ n. Ends n) refl (omega arith) many)
    (worded-none (codes "undone ") _ line None (numbered-none (codes "undone ") line 7 (λ n. Undoes n) refl (omega arith) many) refl)))))))

-- a long line
abbrev long_by : List ℕ → Option Entry
long_by line = if list_all is_upper_digit (drop 82 line) then long_page (take 82 line) (length line - 82) else None

long-line : (line : List ℕ) → 82 < length line → option_map forget_entry (entry_of line) ≡ long_by line
long-line line many = elim (cases_Bool (bytes_eq (take 5 line) (codes "page "))) [
  | inl is ↦
      let rest : List ℕ = drop 5 line in
      let cut : take 5 (take 82 line) ≡ take 5 line = take-take 5 82 line (omega arith) in
      let here : behind (codes "page ") line ≡ Some rest = ap (λ (b : Bool). if b then Some rest else None) is in
      let there : behind (codes "page ") (take 82 line) ≡ Some (take 77 rest) =
      ap (λ (xs : List ℕ). if bytes_eq xs (codes "page ") then Some (drop 5 (take 82 line)) else None) cut
      ∙ ap (λ (b : Bool). if b then Some (drop 5 (take 82 line)) else None) is
      ∙ ap (λ (xs : List ℕ). Some xs) (drop-take 5 77 line)
      in
      let back : drop 77 rest ≡ drop 82 line = drop-drop 77 5 line in
      let count : length rest - 77 ≡ length line - 82 = omega (arith, length-drop 5 line) in
      ap (λ (o : Option (List ℕ)). option_map forget_entry (elim o as (λ _. Option Entry) [ None ↦ other_of line | Some r ↦ kept_entry_of r ])) here
      ∙ long-rest rest (omega (arith, many, length-drop 5 line))
      ∙ ap (λ (xs : List ℕ). if list_all is_upper_digit xs then long_at (take 77 rest) (length rest - 77) (position (λ b. b == 32) (take 77 rest)) else None) back
      ∙ ap (λ (n : ℕ). if list_all is_upper_digit (drop 82 line) then long_at (take 77 rest) n (position (λ b. b == 32) (take 77 rest)) else None) count
      ∙ sym (ap (λ (o : Option (List ℕ)). if list_all is_upper_digit (drop 82 line) then (elim o as (λ _. Option Entry) [ None ↦ None | Some r ↦ long_at r (length line - 82) (position (λ b. b == 32) r) ]) else None) there)
  | inr isnt ↦
      let cut : take 5 (take 82 line) ≡ take 5 line = take-take 5 82 line (omega arith) in
      let here : behind (codes "page ") line ≡ None = ap (λ (b : Bool). if b then Some (drop 5 line) else None) isnt in
      let there : behind (codes "page ") (take 82 line) ≡ None =
      ap (λ (xs : List ℕ). if bytes_eq xs (codes "page ") then Some (drop 5 (take 82 line)) else None) cut
      ∙ ap (λ (b : Bool). if b then Some (drop 5 (take 82 line)) else None) isnt
      in
      ap (λ (o : Option (List ℕ)). option_map forget_entry (elim o as (λ _. Option Entry) [ None ↦ other_of line | Some r ↦ kept_entry_of r ])) here
      ∙ ap (λ (o : Option Entry). option_map forget_entry o) (other-none line many)
      ∙ sym (ap (λ (o : Option (List ℕ)). if list_all is_upper_digit (drop 82 line) then (elim o as (λ _. Option Entry) [ None ↦ None | Some r ↦ long_at r (length line - 82) (position (λ b. b == 32) r) ]) else None) there
      ∙ if-none (list_all is_upper_digit (drop 82 line)))
]

pub said_by-line : (line : List ℕ) → option_map forget_entry (entry_of line) ≡ said_by (summary_of line)
said_by-line line = ⊎_elim
    (λ many.
    let t : nat_le (length line) 82 ≡ false = not-le (length line) many in
    long-line line many ∙ sym (ap (λ (b : Bool). if b then option_map forget_entry (entry_of (take 82 line)) else long_by line) t))
    (λ few.
    let t : nat_le (length line) 82 ≡ true = is-le (length line) few in
    let whole : take 82 line ≡ line = take_all 82 line few in
    sym (ap (λ (b : Bool). if b then option_map forget_entry (entry_of (take 82 line)) else long_by line) t ∙ ap (λ (xs : List ℕ). option_map forget_entry (entry_of xs)) whole))
    (cases_lt 82 (length line))
  where
    not-le : (n : ℕ) → 82 < n → nat_le n 82 ≡ false
    not-le n lt = grind (arith, nat_tests)

    is-le : (n : ℕ) → n ≤ 82 → nat_le n 82 ≡ true
    is-le n le = grind (arith, nat_tests)
