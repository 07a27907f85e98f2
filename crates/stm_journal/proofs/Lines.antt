-- A printed line reads back as its entry, is one line, and isn't void.
use Rattle.std.proofs.Common.{◌≡◌, ◌≤◌, ◌<◌, ◌⊎◌, inl, inr, IsTrue, None, not, ℕ, zero, suc, ◌+◌, ◌*◌, ◌/◌, ◌%◌, ◌-◌, Bool, true, false, ◌==◌, ◌&&◌, List, [], ◌∷◌, ◌++◌, length, take, drop, codes, decimal, Option, Some, refl, sym, ◌∙◌, ap, subst, ⊎_elim, if◌then◌else◌, arith, length-append, option_map}
use Rattle.std.specs.Prelude.{option_and_then}
use Rattle.std.specs.List.{list_all}
use Rattle.std.proofs.lemmas.Bool.{true≢false}
use Rattle.std.proofs.lemmas.Bool.Decides.{nat_tests}
use Rattle.std.proofs.lemmas.List.Folds.{list_all-append}
use Rattle.stm_wire.proofs.Names.{is_unique_length}
use Rattle.hex.specs.Hex.{encode_upper, IsBytes}
use Rattle.stm_journal.proofs.Names.{board_at, board_of_fields, decimal_of, device_text, Entry, entry_of, HasNoLF, header_word, hex_bytes_of, id_digits, id_of, is_void, IsHeaderOf, IsPrintable}
use Rattle.stm_journal.proofs.Names.{line_of, number_of_pair, page_at, page_of_fields, unique_id_of}
use Rattle.stm_journal.specs.declared.entry.Entry.TheVariants.{Names, Opens, Keeps, Erases, Programs, Ends, Undoes}
use Rattle.stm_journal.proofs.Texts.{HasNoLF-append}
use Rattle.stm_journal.proofs.Numbers.{number_of-decimal}
use Rattle.stm_journal.proofs.Digits.{is_plain, is_no_bang, all-weaker, plain-bang, hex_bytes_of-encode, plain-encode, plain-decimal, HasNoLF-plain, no_bang-plain, no_bang-append, position-space}

pub drop-front : (xs ys : List ℕ) → drop (length xs) (xs ++ ys) ≡ ys
drop-front [] ys = refl
drop-front (x ∷ xs) ys = drop-front xs ys

take-front : (xs ys : List ℕ) → take (length xs) (xs ++ ys) ≡ xs
take-front [] ys = refl
take-front (x ∷ xs) ys = ap (λ (zs : List ℕ). x ∷ zs) (take-front xs ys)

drop-field : (xs ys : List ℕ) → drop (length xs + 1) (xs ++ 32 ∷ ys) ≡ ys
drop-field xs ys =
    let e : length xs + 1 ≡ length (xs ++ 32 ∷ []) = sym (length-append xs (32 ∷ [])) in
    rw e (rw (regroup xs ys) (drop-front (xs ++ 32 ∷ []) ys))
  where
    regroup : (us vs : List ℕ) → us ++ 32 ∷ vs ≡ (us ++ 32 ∷ []) ++ vs
    regroup [] vs = refl
    regroup (u ∷ us) vs = ap (λ (zs : List ℕ). u ∷ zs) (regroup us vs)

second-true : (a b : Bool) → (a && b) ≡ true → b ≡ true
second-true true b e = e
second-true false b e = absurd (true≢false (sym e))

first-true : (a b : Bool) → (a && b) ≡ true → a ≡ true
first-true true b e = refl
first-true false b e = e

both-true : (a b : Bool) → a ≡ true → b ≡ true → (a && b) ≡ true
both-true true b h e = e
both-true false b h e = h

pair-bytes : (id : ℕ) → id ≤ 65535 → IsBytes (id / 256 ∷ id % 256 ∷ [])
pair-bytes id within zero = omega arith
pair-bytes id within (suc zero) = omega arith
pair-bytes id within (suc (suc i)) = omega arith

-- the digits of an id say it
id-read : (id : ℕ) → id ≤ 65535 → id_of (id_digits id) ≡ Some id
id-read id within =
    let whole : id / 256 * 256 + id % 256 ≡ id = omega arith in
    ap (λ (o : Option (List ℕ)). option_and_then number_of_pair o) (hex_bytes_of-encode (id / 256 ∷ id % 256 ∷ []) (omega arith) (pair-bytes id within)) ∙ ap (λ (i : ℕ). Some i) whole

-- and those of a unique id
some-bytes : (n : ℕ) → IsTrue (is_unique_length n) → 0 < n
some-bytes n is = grind (arith, nat_tests)

unique-read : (unique : List ℕ) → IsTrue (is_unique_length (length unique)) → IsBytes unique → unique_id_of (encode_upper unique) ≡ Some unique
unique-read unique size are =
    ap (λ (o : Option (List ℕ)). option_and_then (λ bytes. if is_unique_length (length bytes) then Some bytes else None) o)
    (hex_bytes_of-encode unique (some-bytes (length unique) size) are)
    ∙ ap (λ (b : Bool). if b then Some unique else None) size

abbrev ReadsBack : ℕ → ℕ → List ℕ → Type 0
ReadsBack id version unique = entry_of (line_of (Names version id unique)) ≡ Some (Names version id unique)

board-read : (id : ℕ) (unique : List ℕ) → id ≤ 65535 → IsTrue (is_unique_length (length unique)) → IsBytes unique → ReadsBack id 3 unique
board-read id unique within size are =
    let ds : List ℕ = id_digits id in
    let hex : List ℕ = encode_upper unique in
    let rest : List ℕ = ds ++ 32 ∷ hex in
    ap (λ (o : Option ℕ). board_at rest o) (position-space ds hex (plain-encode (id / 256 ∷ id % 256 ∷ []) (pair-bytes id within)))
    ∙ ap (λ (xs : List ℕ). board_of_fields (id_of xs) (unique_id_of (drop (length ds + 1) rest))) (take-front ds (32 ∷ hex))
    ∙ ap (λ (xs : List ℕ). board_of_fields (id_of ds) (unique_id_of xs)) (drop-field ds hex)
    ∙ ap (λ (o : Option ℕ). board_of_fields o (unique_id_of hex)) (id-read id within)
    ∙ ap (λ (o : Option (List ℕ)). board_of_fields (Some id) o) (unique-read unique size are)

-- a printed line says its entry
pub entry_of-line : (e : Entry) → IsPrintable e → entry_of (line_of e) ≡ Some e
entry_of-line (Names version id unique) is =
    let one : ReadsBack id 1 [] = ap (λ (o : Option ℕ). option_map (λ i. Names 1 i []) o) (id-read id is.1) in
    let two : ReadsBack id 2 [] = ap (λ (o : Option ℕ). option_map (λ i. Names 2 i []) o) (id-read id is.1) in
    ⊎_elim
    (λ old. no-board id version unique old.1 (⊎_elim (λ e. subst (λ v. ReadsBack id v []) (sym e) one) (λ e. subst (λ v. ReadsBack id v []) (sym e) two) old.0))
    (λ new. subst (λ v. ReadsBack id v unique) (sym new.0) (board-read id unique is.1 new.1.0 new.1.1)) is.0
  where
    no-board : (id version : ℕ) (unique : List ℕ) → unique ≡ [] → ReadsBack id version [] → ReadsBack id version unique
    no-board id version unique none back = subst (λ u. ReadsBack id version u) (sym none) back
entry_of-line (Opens k) is = ap (λ (o : Option ℕ). option_map (λ n. Opens n) o) (number_of-decimal k is)
entry_of-line (Keeps n bytes) is =
    let ds : List ℕ = decimal n in
    let hex : List ℕ = encode_upper bytes in
    let rest : List ℕ = ds ++ 32 ∷ hex in
    ap (λ (o : Option ℕ). page_at rest o) (position-space ds hex (plain-decimal n is.0))
    ∙ ap (λ (xs : List ℕ). page_of_fields (decimal_of xs) (hex_bytes_of (drop (length ds + 1) rest))) (take-front ds (32 ∷ hex))
    ∙ ap (λ (xs : List ℕ). page_of_fields (decimal_of ds) (hex_bytes_of xs)) (drop-field ds hex)
    ∙ ap (λ (o : Option ℕ). page_of_fields o (hex_bytes_of hex)) (number_of-decimal n is.0)
    ∙ ap (λ (o : Option (List ℕ)). page_of_fields (Some n) o) (hex_bytes_of-encode bytes is.1.0 is.1.1)
entry_of-line (Erases n) is = ap (λ (o : Option ℕ). option_map (λ k. Erases k) o) (number_of-decimal n is)
entry_of-line (Programs n) is = ap (λ (o : Option ℕ). option_map (λ k. Programs k) o) (number_of-decimal n is)
entry_of-line (Ends k) is = ap (λ (o : Option ℕ). option_map (λ n. Ends n) o) (number_of-decimal k is)
entry_of-line (Undoes k) is = ap (λ (o : Option ℕ). option_map (λ n. Undoes n) o) (number_of-decimal k is)

numbered-noLF : (word : List ℕ) (n : ℕ) → HasNoLF word → n ≤ 65535 → HasNoLF (word ++ decimal n)
numbered-noLF word n h is = HasNoLF-append word (decimal n) h (HasNoLF-plain (decimal n) (plain-decimal n is))

header-noLF : (version : ℕ) → HasNoLF (header_word version)
header-noLF version = at (version == 3) (version == 2)
  where
    at : (b c : Bool) → HasNoLF (if b then codes "stmjournal 3 " else if c then codes "stmjournal 2 " else codes "stmjournal 1 ")
    at true c = (refl, (refl, (refl, (refl, (refl, (refl, (refl, (refl, (refl, (refl, (refl, (refl, (refl, tt)))))))))))))
    at false true = (refl, (refl, (refl, (refl, (refl, (refl, (refl, (refl, (refl, (refl, (refl, (refl, (refl, tt)))))))))))))
    at false false = (refl, (refl, (refl, (refl, (refl, (refl, (refl, (refl, (refl, (refl, (refl, (refl, (refl, tt)))))))))))))

header-no_bang : (version : ℕ) → list_all is_no_bang (header_word version) ≡ true
header-no_bang version = at (version == 3) (version == 2)
  where
    at : (b c : Bool) → list_all is_no_bang (if b then codes "stmjournal 3 " else if c then codes "stmjournal 2 " else codes "stmjournal 1 ") ≡ true
    at true c = refl
    at false true = refl
    at false false = refl

-- what follows is digits and, in version 3, a space
no-board : (version : ℕ) (unique : List ℕ) → IsHeaderOf version unique → (version == 3) ≡ true → IsBytes unique
no-board version unique is third = ⊎_elim (λ old. absurd (other version old.0 third)) (λ new. new.1.1) is
  where
    other : (v : ℕ) → (v ≡ 1) ⊎ (v ≡ 2) → (v == 3) ≡ true → ⊥
    other v (inl e) h = grind (arith, nat_tests)
    other v (inr e) h = grind (arith, nat_tests)

device-all : (p : ℕ → Bool) → ((c : ℕ) → is_plain c ≡ true → p c ≡ true) → p 32 ≡ true → (version id : ℕ) (unique : List ℕ) → IsHeaderOf version unique → id ≤ 65535
    → list_all p (device_text version id unique) ≡ true
device-all p weaker space version id unique is within = at (version == 3) (no-board version unique is)
  where
    digits : (bytes : List ℕ) → IsBytes bytes → list_all p (encode_upper bytes) ≡ true
    digits bytes are = all-weaker is_plain p weaker (encode_upper bytes) (plain-encode bytes are)

    at : (b : Bool) → (b ≡ true → IsBytes unique) → list_all p (if b then id_digits id ++ 32 ∷ encode_upper unique else id_digits id) ≡ true
    at true are =
        list_all-append p (id_digits id) (32 ∷ encode_upper unique)
        ∙ both-true (list_all p (id_digits id)) (p 32 && list_all p (encode_upper unique)) (digits (id / 256 ∷ id % 256 ∷ []) (pair-bytes id within))
        (both-true (p 32) (list_all p (encode_upper unique)) space (digits unique (are refl)))
    at false are = digits (id / 256 ∷ id % 256 ∷ []) (pair-bytes id within)

device-noLF : (version id : ℕ) (unique : List ℕ) → IsHeaderOf version unique → id ≤ 65535 → HasNoLF (device_text version id unique)
device-noLF version id unique is within = noLF (device_text version id unique) (device-all (λ b. not (b == 10)) plain-other refl version id unique is within)
  where
    plain-other : (c : ℕ) → is_plain c ≡ true → not (c == 10) ≡ true
    plain-other c h = grind (arith, nat_tests)

    is-other : (c : ℕ) → not (c == 10) ≡ true → (c == 10) ≡ false
    is-other c h = grind (arith, nat_tests)

    noLF : (xs : List ℕ) → list_all (λ b. not (b == 10)) xs ≡ true → HasNoLF xs
    noLF [] h = tt
    noLF (x ∷ xs) h = (is-other x (first-true (not (x == 10)) (list_all (λ b. not (b == 10)) xs) h), noLF xs (second-true (not (x == 10)) (list_all (λ b. not (b == 10)) xs) h))

-- a printed line has no LF
pub HasNoLF-line : (e : Entry) → IsPrintable e → HasNoLF (line_of e)
HasNoLF-line (Names version id unique) is =
    HasNoLF-append (header_word version) (device_text version id unique) (header-noLF version) (device-noLF version id unique is.0 is.1)
HasNoLF-line (Opens k) is = numbered-noLF (codes "open ") k (refl, (refl, (refl, (refl, (refl, tt))))) is
HasNoLF-line (Keeps n bytes) is =
    HasNoLF-append (codes "page ") (decimal n ++ 32 ∷ encode_upper bytes) (refl, (refl, (refl, (refl, (refl, tt)))))
    (HasNoLF-append (decimal n) (32 ∷ encode_upper bytes) (HasNoLF-plain (decimal n) (plain-decimal n is.0)) (refl, HasNoLF-plain (encode_upper bytes) (plain-encode bytes is.1.1)))
HasNoLF-line (Erases n) is = numbered-noLF (codes "erase ") n (refl, (refl, (refl, (refl, (refl, (refl, tt)))))) is
HasNoLF-line (Programs n) is = numbered-noLF (codes "program ") n (refl, (refl, (refl, (refl, (refl, (refl, (refl, (refl, tt)))))))) is
HasNoLF-line (Ends k) is = numbered-noLF (codes "end ") k (refl, (refl, (refl, (refl, tt)))) is
HasNoLF-line (Undoes k) is = numbered-noLF (codes "undone ") k (refl, (refl, (refl, (refl, (refl, (refl, (refl, tt))))))) is

numbered-no_bang : (word : List ℕ) (n : ℕ) → list_all is_no_bang word ≡ true → n ≤ 65535 → list_all is_no_bang (word ++ decimal n) ≡ true
numbered-no_bang word n h is = no_bang-append word (decimal n) h (no_bang-plain (decimal n) (plain-decimal n is))

no_bang-line : (e : Entry) → IsPrintable e → list_all is_no_bang (line_of e) ≡ true
no_bang-line (Names version id unique) is =
    no_bang-append (header_word version) (device_text version id unique) (header-no_bang version)
    (device-all is_no_bang plain-bang refl version id unique is.0 is.1)
no_bang-line (Opens k) is = numbered-no_bang (codes "open ") k refl is
no_bang-line (Keeps n bytes) is =
    no_bang-append (codes "page ") (decimal n ++ 32 ∷ encode_upper bytes) refl
    (no_bang-append (decimal n) (32 ∷ encode_upper bytes) (no_bang-plain (decimal n) (plain-decimal n is.0)) (no_bang-plain (encode_upper bytes) (plain-encode bytes is.1.1)))
no_bang-line (Erases n) is = numbered-no_bang (codes "erase ") n refl is
no_bang-line (Programs n) is = numbered-no_bang (codes "program ") n refl is
no_bang-line (Ends k) is = numbered-no_bang (codes "end ") k refl is
no_bang-line (Undoes k) is = numbered-no_bang (codes "undone ") k refl is

no_bang-drop : (k : ℕ) (xs : List ℕ) → list_all is_no_bang xs ≡ true → list_all is_no_bang (drop k xs) ≡ true
no_bang-drop zero xs h = h
no_bang-drop (suc k) [] h = refl
no_bang-drop (suc k) (x ∷ xs) h = no_bang-drop k xs (second-true (is_no_bang x) (list_all is_no_bang xs) h)

other-byte : (y : ℕ) → is_no_bang y ≡ true → (33 == y) ≡ false
other-byte y h = grind (arith, nat_tests)

unlike : (y : ℕ) (c : Bool) → is_no_bang y ≡ true → ((33 == y) && c) ≡ false
unlike y c h = ap (λ (v : Bool). v && c) (other-byte y h)

ends-none : (xs zs : List ℕ) → list_all is_no_bang zs ≡ true → drop (length xs - 1) xs ≡ zs → is_void xs ≡ false
ends-none xs [] h e = rw e refl
ends-none xs (z ∷ zs) h e = rw e (unlike z _ (first-true (is_no_bang z) (list_all is_no_bang zs) h))

-- a printed line isn't void
pub is_void-printed : (e : Entry) → IsPrintable e → is_void (line_of e) ≡ false
is_void-printed e is = ends-none (line_of e) (drop (length (line_of e) - 1) (line_of e)) (no_bang-drop (length (line_of e) - 1) (line_of e) (no_bang-line e is)) refl

-- `!` makes a line void
pub is_void-marked : (xs : List ℕ) → is_void (xs ++ 33 ∷ []) ≡ true
is_void-marked xs =
    let len : length (xs ++ 33 ∷ []) - 1 ≡ length xs = omega (arith, length-append xs (33 ∷ [])) in
    let last : drop (length (xs ++ 33 ∷ []) - 1) (xs ++ 33 ∷ []) ≡ 33 ∷ [] = rw len (drop-front xs (33 ∷ [])) in
    rw last refl
