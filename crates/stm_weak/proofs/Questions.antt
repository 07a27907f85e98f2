-- Frames by which a device is asked which board it is are calm.
use Rattle.std.proofs.Common.{◌≡◌, ⊎_elim, ℕ, ◌+◌, ◌-◌, ◌/◌, ◌%◌, ◌<◌, ◌≤◌, Bool, true, false, ◌&&◌}
use Rattle.std.proofs.Common.{◌||◌, ◌==◌, if◌then◌else◌, List, [], ◌∷◌, length, Option, Some, None}
use Rattle.std.proofs.Common.{IsTrue, inr, refl, sym, ◌∙◌, ap₂, subst, arith, eq-eqb}
use Rattle.std.proofs.lemmas.Bool.{and_parts, eqb-true, false≢true, leb-true, or_cases}
use Rattle.stm_wire.specs.declared.places.UniquePlace.{UniquePlace}
use Rattle.stm_wire.specs.declared.verdict.Verdict.{Verdict}
use Rattle.stm_wire.specs.declared.verdict.Verdict.TheVariants.{Refused}
use Rattle.stm_wire.proofs.Names.{address_bytes, after_address, asks_size, asks_unique, at_end, can_read, ChipData, Device, fits_inside, flash_size, has_size, has_unique, is_listed, is_outside}
use Rattle.stm_wire.proofs.Names.{is_readable, is_size_place, is_unique_length, is_unique_place, IsChip, IsDevice, read_head, read_verdict, with_checksum, xor}
use Rattle.stm_wire.specs.lemmas.PageLaws.{fits-end}
use Rattle.stm_weak.specs.FedAsking.{IsBoardQuestion, IsToldAt, at_size, at_unique, up_to_refused}
use Rattle.stm_weak.specs.FedAsking.{which_board, which_chip, which_commands}
use Rattle.stm_weak.proofs.Calm.{calm_nothing, rest_one}
use Rattle.stm_weak.proofs.CalmFrames.{IsCalmAlong, IsCalmFrame, early_calm, get_frame_calm}
use Rattle.stm_weak.proofs.CalmFrames.{get_id_frame_calm, read_frame_calm}
use Rattle.stm_weak.proofs.Openness.{same_number, verdict_listed}
use Rattle.stm_weak.proofs.Tails.{repeated_read}
use Rattle.stm_weak.proofs.UniqueReads.{beside_flash}

-- A place at which a chip tells its board lies beside its flash, whatever is read there.

unique_beside : (chip : ChipData) (o : Option UniquePlace) (address size : ℕ)
    → is_unique_place chip o ≡ true → has_unique o address size ≡ true
    → is_outside chip address size ≡ true
unique_beside chip None address size is has = absurd (false≢true has)
unique_beside chip (Some place) address size is has =
    let parts = and_parts (place.address == address) (place.length == size) has in
    let P : ℕ → Type 0 = λ a. is_outside chip a size ≡ true in
    let Q : ℕ → Type 0 = λ n. is_outside chip place.address n ≡ true in
    subst P (eqb-true place.address address parts.0)
    (subst Q (eqb-true place.length size parts.1)
    (and_parts (is_unique_length place.length) (is_outside chip place.address place.length) is).1)

size_beside : (chip : ChipData) (o : Option ℕ) (address : ℕ) → is_size_place chip o ≡ true
    → has_size o address ≡ true → is_outside chip address 2 ≡ true
size_beside chip None address is has = absurd (false≢true has)
size_beside chip (Some at) address is has =
    let P : ℕ → Type 0 = λ a. is_outside chip a 2 ≡ true in
    subst P (eqb-true at address has) is

module _ (chip : ChipData) (is : IsChip chip) (address some : ℕ) (long : 1 ≤ some)
    (out : is_outside chip address some ≡ true) where
  places : (is_unique_place chip chip.places.unique ≡ true)
      × (is_size_place chip chip.places.size ≡ true)
  places = and_parts (is_unique_place chip chip.places.unique)
      (is_size_place chip chip.places.size) is.places

  pub beside_all : (size p : ℕ) → IsTrue (can_read chip address size) → p < flash_size chip
      → address ≤ chip.base + p → chip.base + p < address + size → ⊥
  unfolding can_read
  beside_all size p readable lt from to =
      ⊎_elim fits (λ beside. ⊎_elim asks_id asks_kib
      (or_cases (asks_unique chip address size) (asks_size chip address size) beside))
      (or_cases (fits_inside chip address size)
      (asks_unique chip address size || asks_size chip address size) readable)
    where
      fits : fits_inside chip address size ≡ true → ⊥
      fits f = let e = fits-end chip address size f
          in beside_flash chip address some (address - chip.base) out
          (omega (arith, e.0, e.1, to, from)) (omega (arith, e.0)) (omega (arith, e.0, long))

      asks_id : asks_unique chip address size ≡ true → ⊥
      asks_id here = beside_flash chip address size p
          (unique_beside chip chip.places.unique address size places.0
          (and_parts (has_unique chip.places.unique address size)
          (length chip.unique == size) here).0) lt from to

      asks_kib : asks_size chip address size ≡ true → ⊥
      asks_kib here =
          let h = and_parts (has_size chip.places.size address) (size == 2) here in
          let two : size ≡ 2 = eqb-true size 2 h.1 in
          beside_flash chip address 2 p (size_beside chip chip.places.size address places.1 h.0) lt
          from (omega (arith, two, to))

told_beside : (chip : ChipData) (address : ℕ) → IsChip chip → IsToldAt chip address
    → (size p : ℕ) → IsTrue (can_read chip address size) → p < flash_size chip
    → address ≤ chip.base + p → chip.base + p < address + size → ⊥
told_beside chip address is (at_unique place told same) =
    let parts = and_parts (is_unique_place chip chip.places.unique)
    (is_size_place chip chip.places.size) is.places in
    let P : Option UniquePlace → Type 0 = λ o. is_unique_place chip o ≡ true in
    let here = and_parts (is_unique_length place.length)
    (is_outside chip place.address place.length) (subst P told parts.0) in
    let Q : ℕ → Type 0 = λ a. is_outside chip a place.length ≡ true in
    beside_all chip is address place.length
    (omega (arith, leb-true 8 place.length (and_parts _ _ here.0).0)) (subst Q (sym same) here.1)
told_beside chip address is (at_size told) =
    let parts = and_parts (is_unique_place chip chip.places.unique)
    (is_size_place chip chip.places.size) is.places in
    let P : Option ℕ → Type 0 = λ o. is_size_place chip o ≡ true in
    beside_all chip is address 2 (omega arith) (subst P told parts.1)

-- An address that is refused ends a read.
module _ (chip : ChipData) (codes : List ℕ) (address : ℕ) (listed : IsTrue (is_listed codes 0x11))
    (refused : is_readable chip address ≡ false) where
  a : ℕ
  a = address / 16777216

  b : ℕ
  b = address / 65536 % 256

  c : ℕ
  c = address / 256 % 256

  wrong : after_address (is_readable chip) (read_verdict chip)
      (with_checksum (address_bytes address)) ≡ Some Refused
  wrong =
      let x = xor (address_bytes address) in
      let choose : Bool → Bool → ℕ → Option Verdict = λ t i m. if t && i then read_verdict chip m
      [] else at_end Refused [] in
      let P : ℕ → Type 0 = λ m. choose (x == x) (is_readable chip m) m ≡ Some Refused in
      subst P (sym (same_number address)) (ap₂ (λ t i. choose t i address)
      (eq-eqb x x refl) refused)

  head_along : (byte : ℕ) → IsCalmAlong chip codes byte [] (read_head address)
  unfolding a b c
  head_along byte = (
    calm_nothing chip codes byte,
    (
      rest_one chip codes byte 0x11 listed (λ k same. repeated_read chip [] byte k (omega arith)),
      (
        early_calm chip codes listed byte [] (omega arith),
        (
          early_calm chip codes listed byte (a ∷ []) (omega arith),
          (
            early_calm chip codes listed byte (a ∷ b ∷ []) (omega arith),
            (
              early_calm chip codes listed byte (a ∷ b ∷ c ∷ []) (omega arith),
              (early_calm chip codes listed byte (address_bytes address) (omega arith), tt),
            ),
          ),
        ),
      ),
    ),
  )

  pub head_calm : IsCalmFrame chip codes (read_head address)
  unfolding a b c
  head_calm =
      let told = λ (rest : List ℕ). verdict_listed chip codes 0x11 rest listed in record {
        waits = (
          refl,
          (
            told [],
            (
              told (a ∷ []),
              (
                told (a ∷ b ∷ []),
                (
                  told (a ∷ b ∷ c ∷ []),
                  (
                    told (address_bytes
                        address),
                    tt,
                  ),
                ),
              ),
            ),
          ),
        );
        calm = λ byte small. head_along byte;
        ends = inr (told (with_checksum (address_bytes address)) ∙ wrong);
      }

-- So each question is.
pub question_calm : (d : Device) (frame : List ℕ) → IsDevice d → IsBoardQuestion d.chip frame
    → IsCalmFrame d.chip d.codes frame
question_calm d frame is (which_commands e) =
    subst (IsCalmFrame d.chip d.codes) (sym e) (get_frame_calm d is)
question_calm d frame is (which_chip e) =
    subst (IsCalmFrame d.chip d.codes) (sym e) (get_id_frame_calm d is)
question_calm d frame is (which_board address size told readable e) =
    subst (IsCalmFrame d.chip d.codes) (sym e)
    (read_frame_calm d.chip d.codes address (size - 1) is.read readable
    (told_beside d.chip address is.chip told))
question_calm d frame is (up_to_refused address refused e) =
    subst (IsCalmFrame d.chip d.codes) (sym e) (head_calm d.chip d.codes address is.read refused)
