-- The data of a write: no verdict before the checksum, done at it.
use Rattle.std.proofs.Common.{◌≡◌, ℕ, ◌+◌, ◌-◌, ◌≤◌, ◌<◌, Bool, true, ◌&&◌, ◌==◌, List, [], ◌∷◌, ◌++◌, length, take, drop, get_or, ◌/◌, ◌%◌, Option, Some, None, IsTrue, refl, sym, ◌∙◌, ap, ap₂, subst, arith, if◌then◌else◌, eq-eqb, ne_eqb, length-append}
use Rattle.stm_wire.proofs.Names.{ack, address_bytes, CanWrite, ChipData, command, Connected, Device, done_if, Effect, Fed, fits_inside, HasWritten, is_inside, is_listed, IsDevice, LeavesFirst}
use Rattle.stm_wire.proofs.Names.{number_of, owing, TakesAddress, Verdict, verdict, with_checksum, with_rest, Write, write_verdict, xor}
use Rattle.stm_wire.specs.declared.verdict.Verdict.TheVariants.{Done}
use Rattle.std.proofs.Common.{inr}
use Rattle.std.proofs.Math.Seq.{take-append_seam, get_or-append_seam}
use Rattle.stm_wire.proofs.Steps.{OpenAlong, replies_along, fed-done}
use Rattle.stm_wire.proofs.Address.{verdict-listed, after_address-right, number_of-address_bytes, settled-is}
use Rattle.stm_wire.proofs.Tellings.{fits-inside}

-- too few bytes have no verdict
short : (chip : ChipData) (address n : ℕ) (rest : List ℕ) → length rest < n + 2 → write_verdict chip address (n ∷ rest) ≡ None
short chip address n rest h =
    let ne : length rest ≡ n + 2 → ⊥ = λ e. omega (arith, h, e) in
    let P : Bool → Type 0 = λ b. (if b then Some (done_if (get_or rest (n + 1) 0 == xor (n ∷ take (n + 1) rest) && fits_inside chip address (n + 1))) else None) ≡ None in
    subst P (sym (ne_eqb (length rest) (n + 2) ne)) refl

module _ (chip : ChipData) (codes : List ℕ) (address n : ℕ) (listed : IsTrue (is_listed codes 0x31)) (inside : IsTrue (is_inside chip address)) where
  pub data-waits : (so_far bytes : List ℕ) → length so_far + length bytes < n + 2 → OpenAlong chip codes (command 0x31 ++ with_checksum (address_bytes address) ++ n ∷ so_far) bytes
  data-waits so_far [] h = tt
  data-waits so_far (byte ∷ bytes) h =
      let e = length-append so_far (byte ∷ []) in (
        verdict-listed chip codes 0x31 (with_checksum (address_bytes address) ++ n ∷ (so_far ++ byte ∷ [])) listed
            ∙ after_address-right (is_inside chip) (write_verdict chip) address (n ∷ (so_far ++ byte ∷ [])) inside ∙ short chip address n (so_far ++ byte ∷ []) (omega (arith, e, h)),
        data-waits (so_far ++ byte ∷ []) bytes (omega (arith, e, h)),
      )

  pub data-reply : (so_far bytes : List ℕ) → replies_along (command 0x31 ++ with_checksum (address_bytes address) ++ n ∷ so_far) bytes ≡ []
  data-reply so_far [] = refl
  data-reply so_far (byte ∷ bytes) = data-reply (so_far ++ byte ∷ []) bytes

-- the data, its count and its checksum are done
data-verdict : (chip : ChipData) (address : ℕ) (bytes : List ℕ) → 1 ≤ length bytes → IsTrue (fits_inside chip address (length bytes))
    → write_verdict chip address ((length bytes - 1) ∷ (bytes ++ xor ((length bytes - 1) ∷ bytes) ∷ [])) ≡ Some Done
data-verdict chip address bytes some fits =
    let n = length bytes - 1 in
    let check = xor (n ∷ bytes) in
    let rest = bytes ++ check ∷ [] in
    let one : n + 1 ≡ length bytes = omega (arith, some) in
    let size : length rest ≡ n + 2 = omega (arith, length-append bytes (check ∷ []), one) in
    let last : get_or rest (n + 1) 0 ≡ check = ap (λ k. get_or rest k 0) one ∙ get_or-append_seam bytes check [] 0 in
    let front : take (n + 1) rest ≡ bytes = ap (λ k. take k rest) one ∙ take-append_seam bytes (check ∷ []) in
    let choose : Bool → Bool → Bool → Option Verdict = λ t x y. if t then Some (done_if (x && y)) else None in
    let same : IsTrue (get_or rest (n + 1) 0 == xor (n ∷ take (n + 1) rest)) = eq-eqb (get_or rest (n + 1) 0) (xor (n ∷ take (n + 1) rest)) (last ∙ ap (λ zs. xor (n ∷ zs)) (sym front)) in
    let inside : IsTrue (fits_inside chip address (n + 1)) = (let P : ℕ → Type 0 = λ k. IsTrue (fits_inside chip address k) in subst P (sym one) fits) in
    ap (λ t. choose t (get_or rest (n + 1) 0 == xor (n ∷ take (n + 1) rest)) (fits_inside chip address (n + 1))) (eq-eqb (length rest) (n + 2) size)
    ∙ ap₂ (choose true) same inside

pub write-address : (address : ℕ) (bytes : List ℕ) (d : Device) → 1 ≤ length bytes → CanWrite address (length bytes) d → TakesAddress 0x31 address d
write-address address bytes d some can = record { settled = can.settled; takes = inr refl; inside = fits-inside d.chip address (length bytes) some can.inside }

module _ (address : ℕ) (bytes : List ℕ) (d : Device) (some : 1 ≤ length bytes) (is : IsDevice d) (can : CanWrite address (length bytes) d) where
  count : ℕ
  count = length bytes - 1

  inside : IsTrue (is_inside d.chip address)
  inside = fits-inside d.chip address (length bytes) some can.inside

  waits : OpenAlong d.chip d.codes (command 0x31 ++ with_checksum (address_bytes address)) ((length bytes - 1) ∷ bytes)
  waits = (
    verdict-listed d.chip d.codes 0x31 (with_checksum (address_bytes address) ++ (length bytes - 1) ∷ []) is.write
        ∙ after_address-right (is_inside d.chip) (write_verdict d.chip) address ((length bytes - 1) ∷ []) inside ∙ short d.chip address (length bytes - 1) [] (omega (arith, some)),
    data-waits d.chip d.codes address (length bytes - 1) is.write inside [] bytes (omega (arith, some)),
  )

  replies : replies_along (command 0x31 ++ with_checksum (address_bytes address)) ((length bytes - 1) ∷ bytes) ≡ []
  replies = data-reply d.chip d.codes address (length bytes - 1) is.write inside [] bytes

  done : verdict d.chip d.codes ((command 0x31 ++ with_checksum (address_bytes address) ++ (length bytes - 1) ∷ bytes) ++ xor ((length bytes - 1) ∷ bytes) ∷ []) ≡ Some Done
  done =
      let data_step = (length bytes - 1) ∷ (bytes ++ xor ((length bytes - 1) ∷ bytes) ∷ []) in
      verdict-listed d.chip d.codes 0x31 (with_checksum (address_bytes address) ++ data_step) is.write
      ∙ after_address-right (is_inside d.chip) (write_verdict d.chip) address data_step inside ∙ data-verdict d.chip address bytes some can.inside

  after : (old new : Device) → old ≡ with_rest (command 0x31 ++ with_checksum (address_bytes address)) d → Fed (with_checksum ((length bytes - 1) ∷ bytes)) old new
      → (flash : List ℕ) × Effect d.chip (Write address bytes) d.flash flash × (new ≡ record d { flash = flash; owed = ack ∷ []; phase = Connected [] })
  after old new here f =
      let P : Device → Type 0 = λ e. Fed (with_checksum ((length bytes - 1) ∷ bytes)) e new in
      let check = xor ((length bytes - 1) ∷ bytes) in
      let r = fed-done ((length bytes - 1) ∷ bytes) check (command 0x31 ++ with_checksum (address_bytes address)) d new waits replies done (subst P here f) in
      let one : (length bytes - 1) + 1 ≡ length bytes = omega (arith, some) in
      let front : take ((length bytes - 1) + 1) (bytes ++ check ∷ []) ≡ bytes = ap (λ k. take k (bytes ++ check ∷ [])) one ∙ take-append_seam bytes (check ∷ []) in
      let Q : List ℕ → Type 0 = λ zs. Effect d.chip (Write (number_of (address / 16777216) (address / 65536 % 256) (address / 256 % 256) (address % 256)) zs) d.flash r.0 in
      let R : ℕ → Type 0 = λ a. Effect d.chip (Write a bytes) d.flash r.0 in
      (r.0, subst R (number_of-address_bytes address) (subst Q front r.1), r.2)

  pub data-first : (old : Device) → old ≡ with_rest (command 0x31 ++ with_checksum (address_bytes address)) d → LeavesFirst ack (with_checksum ((length bytes - 1) ∷ bytes)) old
  data-first old here new f = ([], ap (λ (e : Device). e.owed) (after old new here f).2)

  pub has_written : (old new : Device) → old ≡ with_rest (command 0x31 ++ with_checksum (address_bytes address)) d → Fed (with_checksum ((length bytes - 1) ∷ bytes)) old (owing (ack ∷ []) new) → HasWritten address bytes d new
  has_written old new here f =
      let r = after old (owing (ack ∷ []) new) here f in
      let flash : new.flash ≡ r.0 = ap (λ (e : Device). e.flash) r.2 in
      let E : List ℕ → Type 0 = λ zs. Effect d.chip (Write address bytes) d.flash zs in
      record {
        same = ap (λ (e : Device). let t : Device = record e { owed = drop 1 e.owed } in t) r.2
            ∙ ap (λ zs. let t : Device = record d { flash = zs; owed = []; phase = Connected [] } in t) (sym flash)
            ∙ sym (ap (λ (e : Device). let t : Device = record e { flash = new.flash } in t) (settled-is d can.settled));
        written = subst E (sym flash) r.1;
      }
