-- The frames of an erase and a write are open before their last byte.
use Rattle.std.proofs.Common.{◌≡◌, ℕ, ◌+◌, ◌/◌, ◌%◌, ◌<◌}
use Rattle.std.proofs.Common.{◌≤◌, Bool, ◌&&◌, ◌==◌, if◌then◌else◌, List, [], ◌∷◌}
use Rattle.std.proofs.Common.{◌++◌, length, take, get_or, Option, Some, None, IsTrue, refl, sym}
use Rattle.std.proofs.Common.{◌∙◌, ap₂, subst, arith, eq-eqb, ne_eqb, lt-ltb, le-leb, length-append}
use Rattle.std.proofs.lemmas.Bool.{and_from}
use Rattle.stm_wire.specs.declared.chip.EraseKind.{EraseKind}
use Rattle.stm_wire.specs.declared.chip.EraseKind.TheVariants.{Page, Extended}
use Rattle.stm_wire.specs.declared.verdict.Verdict.{Verdict}
use Rattle.stm_wire.specs.declared.verdict.Verdict.TheVariants.{Refused}
use Rattle.stm_wire.proofs.Names.{address_bytes, after_address, at_end, ChipData, command, command_verdict, complement, done_if, erase_frame, fits_inside, flash_size, is_inside, is_listed, ListsKind}
use Rattle.stm_wire.proofs.Names.{number_of, verdict, with_checksum, write_verdict, xor}
use Rattle.stm_wire.specs.lemmas.PageLaws.{fits-end}
use Rattle.stm_weak.proofs.Unread.{IsOpenTo}

pub verdict_listed : (chip : ChipData) (codes : List ℕ) (code : ℕ) (rest : List ℕ)
    → IsTrue (is_listed codes code) → verdict chip codes
    (code ∷ complement code ∷ rest) ≡ command_verdict chip code rest
verdict_listed chip codes code rest listed =
    let choose : Bool → Bool → Option Verdict = λ x y. if x && y then command_verdict chip code rest
    else at_end Refused rest in
    ap₂ choose (eq-eqb (complement code) (complement code) refl) listed

pub open_erase : (chip : ChipData) (codes : List ℕ) (kind : EraseKind) (n : ℕ)
    → ListsKind kind codes → IsOpenTo chip codes [] (erase_frame kind n)
open_erase chip codes Page n lists =
    let at = λ (rest : List ℕ). verdict_listed chip codes 0x43 rest lists.0 in
    (refl, (at [], (at (0 ∷ []), (at (0 ∷ n ∷ []), tt))))
open_erase chip codes Extended n lists =
    let at = λ (rest : List ℕ). verdict_listed chip codes 0x44 rest lists.0 in (
      refl,
      (
        at [],
        (
          at (0 ∷ []),
          (at (0 ∷ 0 ∷ []), (at (0 ∷ 0 ∷ n / 256 ∷ []), (at (0 ∷ 0 ∷ n / 256 ∷ n % 256 ∷ []), tt))),
        ),
      ),
    )

pub same_number : (address : ℕ) → number_of (address / 16777216) (address / 65536 % 256)
    (address / 256 % 256) (address % 256) ≡ address
same_number address = omega arith

pub after_right : (takes : ℕ → Bool) (next : ℕ → List ℕ → Option Verdict) (address : ℕ)
    (rest : List ℕ) → IsTrue (takes address)
    → after_address takes next (with_checksum (address_bytes address) ++ rest) ≡ next address rest
after_right takes next address rest inside =
    let x = xor (address_bytes address) in
    let choose : Bool → Bool → ℕ → Option Verdict = λ t i a. if t && i then next a rest else at_end
    Refused rest in
    let P : ℕ → Type 0 = λ a. choose (x == x) (takes a) a ≡ next address rest in
    subst P (sym (same_number address)) (ap₂ (λ t i. choose t i address) (eq-eqb x x refl) inside)

short_write : (chip : ChipData) (address n : ℕ) (rest : List ℕ) → length rest < n + 2
    → write_verdict chip address (n ∷ rest) ≡ None
short_write chip address n rest h =
    let ne : length rest ≡ n + 2 → ⊥ = λ e. omega (arith, h, e) in
    let P : Bool → Type 0 = λ b.
    (if b then Some (done_if (get_or rest (n + 1) 0 == xor
    (n ∷ take (n + 1) rest) && fits_inside chip address (n + 1))) else None) ≡ None in
    subst P (sym (ne_eqb (length rest) (n + 2) ne)) refl

module _ (chip : ChipData) (codes : List ℕ) (address n : ℕ) (listed : IsTrue (is_listed codes 0x31))
    (inside : IsTrue (is_inside chip address)) where
  head : List ℕ
  head = command 0x31 ++ with_checksum (address_bytes address)

  data_verdict : (bytes : List ℕ) → length bytes < n + 2
      → verdict chip codes (command 0x31 ++ with_checksum (address_bytes address) ++ n ∷ bytes) ≡
      None
  data_verdict bytes h =
      verdict_listed chip codes 0x31 (with_checksum (address_bytes address) ++ n ∷ bytes) listed
      ∙ after_right (is_inside chip) (write_verdict chip) address (n ∷ bytes) inside
      ∙ short_write chip address n bytes h

  open_data : (so_far bytes : List ℕ) → length so_far + length bytes ≤ n + 2
      → IsOpenTo chip codes (command 0x31 ++ with_checksum (address_bytes address) ++ n ∷ so_far)
      bytes
  open_data so_far (byte ∷ next ∷ more) h =
      let e = length-append so_far (byte ∷ []) in (
        data_verdict (so_far ++ byte ∷ []) (omega (arith, e, h)),
        open_data (so_far ++ byte ∷ [])
            (next ∷ more) (omega (arith, e, h)),
      )
  open_data so_far bytes h = tt

  pub open_write : (bytes : List ℕ) → 1 ≤ length bytes → length bytes ≤ n + 2
      → IsOpenTo chip codes [] (command 0x31 ++ with_checksum (address_bytes address) ++ n ∷ bytes)
  open_write [] some h = absurd (omega (arith, some))
  open_write (byte ∷ bytes) some h =
      let at = λ (rest : List ℕ). verdict_listed chip codes 0x31 rest listed in
      let a = address / 16777216 in
      let b = address / 65536 % 256 in
      let c = address / 256 % 256 in
      let d = address % 256 in (
        refl,
        (
          at [],
          (
            at (a ∷ []),
            (
              at (a ∷ b ∷ []),
              (
                at (a ∷ b ∷ c ∷ []),
                (
                  at (address_bytes address),
                  (
                    at (with_checksum (address_bytes address) ++ [])
                        ∙ after_right (is_inside chip) (write_verdict chip) address [] inside,
                    (data_verdict [] (omega arith), open_data [] (byte ∷ bytes) (omega (arith, h))),
                  ),
                ),
              ),
            ),
          ),
        ),
      )

pub inside_if_fits : (chip : ChipData) (address size : ℕ) → 1 ≤ size
    → IsTrue (fits_inside chip address size) → IsTrue (is_inside chip address)
inside_if_fits chip address size some fits =
    let e = fits-end chip address size fits in
    and_from _ _ (le-leb chip.base address e.0) (lt-ltb address (chip.base + flash_size chip)
    (omega (arith, e.1, some)))
