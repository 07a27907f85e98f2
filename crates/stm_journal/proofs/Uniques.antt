-- The unique id that digits say.
use Rattle.std.proofs.Common.{◌≡◌, ℕ, ◌*◌, Bool, true, false, List, length, Option, Some, None, Ok, IsTrue, if◌then◌else◌, refl, sym, ◌∙◌, ap, subst, arith, take_all}
use Rattle.std.specs.Prelude.{option_map, option_and_then, SomeIff}
use Rattle.std.specs.List.{list_all}
use Rattle.std.proofs.lemmas.Bool.{true≢false}
use Rattle.hex.specs.Hex.{decode_sized}
use Rattle.stm_wire.proofs.Names.{is_unique_length}
use Rattle.stm_journal.proofs.Names.{hex_bytes_of, is_upper_digit, unique_id_of}
use Rattle.stm_journal.proofs.Piecing.{said, pieces-say}

-- digits are decoded as the bytes that they say
whole-said : (digits bytes : List ℕ) → hex_bytes_of digits ≡ Some bytes → (list_all is_upper_digit digits ≡ true) × (decode_sized digits (length bytes) ≡ Ok bytes)
whole-said digits bytes is =
    let s = said digits bytes is in
    let piece = pieces-say digits bytes 0 (length bytes) is (omega arith) in (
      s.0,
      ap (λ (xs : List ℕ). decode_sized xs (length bytes)) (sym (take_all (2 * length bytes) digits (omega (arith, s.1))))
          ∙ piece.1 ∙ ap (λ (xs : List ℕ). Ok xs) (take_all (length bytes) bytes (omega arith)),
    )

abbrev SaidBytes : List ℕ → ℕ → Type 0
SaidBytes digits count = (bytes : List ℕ) × (hex_bytes_of digits ≡ Some bytes) × (length bytes ≡ count)

so-many : (digits : List ℕ) (count : ℕ) → option_map (λ bytes. length bytes) (hex_bytes_of digits) ≡ Some count → SaidBytes digits count
so-many digits count h = at (hex_bytes_of digits) refl h
  where
    same : (n m : ℕ) → Some n ≡ Some m → n ≡ m
    same n m e = cc e

    none : (m : ℕ) → None ≡ Some m → ⊥
    none m e = cc e

    at : (o : Option (List ℕ)) → hex_bytes_of digits ≡ o → option_map (λ bytes. length bytes) o ≡ Some count → SaidBytes digits count
    at None is e = absurd (none count e)
    at (Some bytes) is e = (bytes, is, same (length bytes) count e)

abbrev pub Decoded : List ℕ → ℕ → List ℕ → Bool → Type 0
Decoded digits count out ok = (bytes : List ℕ) → list_all is_upper_digit digits ≡ true → decode_sized digits count ≡ Ok bytes → (ok ≡ true) × (out ≡ bytes)

pub unique-decoded : (digits out : List ℕ) (count : ℕ) (ok : Bool) (r : Option (List ℕ)) → option_map (λ bytes. length bytes) (hex_bytes_of digits) ≡ Some count
    → Decoded digits count out ok → SomeIff r (IsTrue (is_unique_length (length out))) out → r ≡ unique_id_of digits
unique-decoded digits out count ok r h decoded is =
    let s = so-many digits count h in
    let w = whole-said digits s.0 s.1 in
    let D : ℕ → Type 0 = λ n. decode_sized digits n ≡ Ok s.0 in
    let d = decoded s.0 w.0 (subst D s.2 w.1) in
    let S : List ℕ → Type 0 = λ bytes. SomeIff r (IsTrue (is_unique_length (length bytes))) bytes in
    sized s.0 r (is_unique_length (length s.0)) refl (subst S d.1 is) ∙ sym (ap sized-of s.1)
  where
    sized-of : Option (List ℕ) → Option (List ℕ)
    sized-of o = option_and_then (λ bytes. if is_unique_length (length bytes) then Some bytes else None) o

    sized : (bytes : List ℕ) (r : Option (List ℕ)) (b : Bool) → is_unique_length (length bytes) ≡ b → SomeIff r (IsTrue (is_unique_length (length bytes))) bytes → r ≡ (if is_unique_length (length bytes) then Some bytes else None)
    sized bytes None true e h = absurd (h e)
    sized bytes None false e h = sym (ap (λ (b : Bool). if b then Some bytes else None) e)
    sized bytes (Some x) b e h = ap (λ (xs : List ℕ). Some xs) h.1 ∙ sym (ap (λ (b : Bool). if b then Some bytes else None) h.0)

pub unique-refused : (digits out : List ℕ) (count : ℕ) (ok : Bool) → option_map (λ bytes. length bytes) (hex_bytes_of digits) ≡ Some count
    → Decoded digits count out ok → ok ≡ false → None ≡ unique_id_of digits
unique-refused digits out count ok h decoded lost =
    let s = so-many digits count h in
    let w = whole-said digits s.0 s.1 in
    let D : ℕ → Type 0 = λ n. decode_sized digits n ≡ Ok s.0 in
    absurd (true≢false (sym (decoded s.0 w.0 (subst D s.2 w.1)).0 ∙ lost))
