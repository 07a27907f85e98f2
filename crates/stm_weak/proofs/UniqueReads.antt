-- A read where the unique id is told has no place of the flash.
use Rattle.std.proofs.Common.{⊎_elim, ◌||◌, ◌^◌, nat_le, ◌≡◌, inl, inr, ℕ, ◌+◌, ◌-◌, ◌/◌, ◌%◌, ◌<◌}
use Rattle.std.proofs.Common.{◌≤◌, Bool, true, false, ◌&&◌, ◌==◌, if◌then◌else◌, List, [], ◌∷◌}
use Rattle.std.proofs.Common.{◌++◌, length, Option, Some, None, IsTrue, refl, sym}
use Rattle.std.proofs.Common.{◌∙◌, ap₂, subst, arith, eq-eqb}
use Rattle.std.proofs.lemmas.Bool.{and_parts, eqb-true, false≢true, leb-true, or_cases}
use Rattle.stm_wire.specs.declared.verdict.Verdict.{Verdict}
use Rattle.stm_wire.specs.declared.verdict.Verdict.TheVariants.{Done, Refused}
use Rattle.stm_wire.proofs.Names.{address_bytes, after_address, asks_size, asks_unique, at_end, can_read, ChipData, command, complement, done_if, fits_inside, flash_size, has_size, has_unique}
use Rattle.stm_wire.proofs.Names.{is_listed, is_outside, is_readable, is_size_place, is_unique_length, is_unique_place, IsChip, read_verdict, verdict, with_checksum, xor}
use Rattle.stm_wire.specs.lemmas.PageLaws.{fits-end}
use Rattle.stm_wire.specs.declared.places.UniquePlace.{UniquePlace}
use Rattle.stm_weak.proofs.Unread.{IsSilentAlong, LeavesRest}
use Rattle.stm_weak.proofs.Openness.{after_right, same_number, verdict_listed}

pub done_test : (t : Bool) → Some (done_if t) ≡ Some Done → IsTrue t
done_test true e = refl
done_test false e = absurd (let h : Some Refused ≡ Some Done = e in cc)

-- the places lie outside the flash
pub beside_flash : (chip : ChipData) (address size place : ℕ) → IsTrue (is_outside chip address size)
    → place < flash_size chip → address ≤ chip.base + place → chip.base + place < address + size → ⊥
beside_flash chip address size place out lt from to =
    ⊎_elim (λ before. omega (arith, leb-true (address + size) chip.base before, to))
    (λ behind. omega (arith, leb-true (chip.base + flash_size chip) address behind, from, lt))
    (or_cases (nat_le (address + size) chip.base) (nat_le (chip.base + flash_size chip) address)
    (and_parts (nat_le (address + size) (2 ^ 32)) _ out).1)

module _ (chip : ChipData) (place : UniquePlace) (is : IsChip chip)
    (told : chip.places.unique ≡ Some place) where
  places : (is_unique_place chip chip.places.unique ≡ true)
      × (is_size_place chip chip.places.size ≡ true)
  places = and_parts (is_unique_place chip chip.places.unique)
      (is_size_place chip chip.places.size) is.places

  unique : (is_unique_length place.length ≡ true) ×
      (is_outside chip place.address place.length ≡ true)
  unique =
      let P : Option UniquePlace → Type 0 = λ o. is_unique_place chip o ≡ true in
      and_parts (is_unique_length place.length) (is_outside chip place.address place.length)
      (subst P told places.0)

  long : 8 ≤ place.length
  long = leb-true 8 place.length (and_parts (nat_le 8 place.length)
      (nat_le place.length 32) unique.0).0

  no_size : (o : Option ℕ) (size p : ℕ) → is_size_place chip o ≡ true
      → has_size o place.address ≡ true → size ≡ 2 → p < flash_size chip
      → place.address ≤ chip.base + p → chip.base + p < place.address + size → ⊥
  no_size None size p out has two lt from to = absurd (false≢true has)
  no_size (Some at) size p out has two lt from to =
      let same : at ≡ place.address = eqb-true at place.address has in
      beside_flash chip at 2 p out lt (omega (arith, same, from)) (omega (arith, same, two, to))

  pub outside : (size p : ℕ) → IsTrue (can_read chip place.address size) → p < flash_size chip
      → place.address ≤ chip.base + p → chip.base + p < place.address + size → ⊥
  unfolding can_read
  outside size p readable lt from to =
      ⊎_elim fits (λ beside. ⊎_elim asks_id asks_kib
      (or_cases (asks_unique chip place.address size)
      (asks_size chip place.address size) beside))
      (or_cases (fits_inside chip place.address size)
      (asks_unique chip place.address size || asks_size chip place.address size) readable)
    where
      fits : fits_inside chip place.address size ≡ true → ⊥
      fits f = let e = fits-end chip place.address size f
          in beside_flash chip place.address place.length (place.address - chip.base) unique.1
          (omega (arith, e.0, e.1, to, from)) (omega (arith, e.0)) (omega (arith, e.0, long))

      asks_id : asks_unique chip place.address size ≡ true → ⊥
      asks_id here =
          let has = (and_parts (has_unique chip.places.unique place.address size)
          (length chip.unique == size) here).0 in
          let P : Option UniquePlace → Type 0 = λ o. has_unique o place.address size ≡ true in
          let same : place.length ≡ size = eqb-true place.length size
          (and_parts (place.address == place.address) (place.length == size)
          (subst P told has)).1 in
          beside_flash chip place.address place.length p unique.1 lt from (omega (arith, same, to))

      asks_kib : asks_size chip place.address size ≡ true → ⊥
      asks_kib here =
          let h = and_parts (has_size chip.places.size place.address) (size == 2) here in
          no_size chip.places.size size p places.1 h.0 (eqb-true size 2 h.1) lt from to

pub silent_read : (chip : ChipData) (codes : List ℕ) (address n : ℕ) → IsTrue (is_listed codes 0x11)
    → ((p : ℕ) → IsTrue (can_read chip address (n + 1)) → p < flash_size chip
    → address ≤ chip.base + p → chip.base + p < address + (n + 1) → ⊥)
    → IsSilentAlong chip codes [] (command 0x11 ++ with_checksum
    (address_bytes address) ++ command n)
silent_read chip codes address n listed outside = (
  λ p e lt r. r,
  (
    0x11 ∷ [],
    inl (refl, refl),
    (
      λ p e lt r. r.1,
      (
        command 0x11,
        inl (at [], refl),
        (
          λ p e lt r. r.1,
          (
            command 0x11 ++ a ∷ [],
            inl (at (a ∷ []), refl),
            (
              λ p e lt r. r.1,
              (
                command 0x11 ++ a ∷ b ∷ [],
                inl (at (a ∷ b ∷ []), refl),
                (
                  λ p e lt r. r.1,
                  (
                    command 0x11 ++ a ∷ b ∷ c ∷ [],
                    inl (at (a ∷ b ∷ c ∷ []), refl),
                    (
                      λ p e lt r. r.1,
                      (
                        command 0x11 ++ a ∷ b ∷ c ∷ d ∷ [],
                        inl
                            (at (address_bytes address), refl),
                        (λ p e lt r. r.1, by (is_readable chip address) refl),
                      ),
                    ),
                  ),
                ),
              ),
            ),
          ),
        ),
      ),
    ),
  ),
)
  where
    a : ℕ
    a = address / 16777216

    b : ℕ
    b = address / 65536 % 256

    c : ℕ
    c = address / 256 % 256

    d : ℕ
    d = address % 256

    head : List ℕ
    head = command 0x11 ++ with_checksum (address_bytes address)

    at : (rest : List ℕ) → verdict chip codes (command 0x11 ++ rest) ≡ after_address
        (is_readable chip) (read_verdict chip) rest
    at rest = verdict_listed chip codes 0x11 rest listed

    right : (rest : List ℕ) → IsTrue (is_readable chip address)
        → after_address (is_readable chip) (read_verdict chip)
        (with_checksum (address_bytes address) ++ rest) ≡ read_verdict chip address rest
    right rest readable = after_right (is_readable chip) (read_verdict chip) address rest readable

    wrong : is_readable chip address ≡ false → after_address (is_readable chip) (read_verdict chip)
        (with_checksum (address_bytes address) ++ []) ≡ Some Refused
    wrong refused =
        let x = xor (address_bytes address) in
        let choose : Bool → Bool → ℕ → Option Verdict = λ t i m. if t && i then read_verdict chip m
        [] else at_end Refused [] in
        let P : ℕ → Type 0 = λ m. choose (x == x) (is_readable chip m) m ≡ Some Refused in
        subst P (sym (same_number address)) (ap₂ (λ t i. choose t i address)
        (eq-eqb x x refl) refused)

    counted : IsTrue (is_readable chip address) → verdict chip codes
        (command 0x11 ++ with_checksum (address_bytes address) ++ n ∷ []) ≡ None
    counted readable = at (with_checksum (address_bytes address) ++ n ∷ [])
        ∙ right (n ∷ []) readable

    can : IsTrue (is_readable chip address) → verdict chip codes
        (command 0x11 ++ with_checksum (address_bytes address) ++ command n) ≡ Some Done
        → IsTrue (can_read chip address (n + 1))
    can readable e =
        let test = complement n == complement n && can_read chip address (n + 1) in
        let h : Some (done_if test) ≡ Some Done = sym
        (at (with_checksum (address_bytes address) ++ command n) ∙ right (command n) readable)
        ∙ e in
        (and_parts (complement n == complement n) (can_read chip address (n + 1))
        (done_test test h)).1

    by : (t : Bool) → is_readable chip address ≡ t → (next : List ℕ)
        × LeavesRest chip codes (command 0x11 ++ with_checksum (address_bytes address)) next
        (n ∷ complement n ∷ []) × IsSilentAlong chip codes next (n ∷ complement n ∷ [])
    by true readable = (
      head,
      inl (at (with_checksum (address_bytes address) ++ []) ∙ right [] readable, refl),
      (
        λ p e lt r. absurd (let h : None ≡ Some Done = sym (counted readable) ∙ e in cc),
        (
          head ++ n ∷ [],
          inl (counted readable, refl),
          (
            λ p e lt r. outside p (can readable e) lt (omega (arith, r.1.0, same_number address))
                (omega (arith, r.1.1, same_number address)),
            ([], tt, tt),
          ),
        ),
      ),
    )
    by false refused = (
      [],
      inr (at (with_checksum (address_bytes address) ++ []) ∙ wrong refused, refl),
      (λ p e lt r. r, (n ∷ [], inl (refl, refl), (λ p e lt r. r.1, ([], tt, tt)))),
    )
