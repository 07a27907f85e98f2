-- Frames that a session sends while pages may be weak: wherever the host stops in one, whatever byte
-- goes on with it reads no flash, and the whole of it ends in a verdict.
use Rattle.std.proofs.Common.{◌≡◌, ◌⊎◌, inl, inr, ℕ, suc, ◌+◌, ◌-◌, ◌/◌, ◌%◌, ◌<◌, ◌≤◌}
use Rattle.std.proofs.Common.{Bool, true, false, ◌&&◌, ◌==◌, if◌then◌else◌, List, [], ◌∷◌, ◌++◌}
use Rattle.std.proofs.Common.{length, take, replicate, Option, Some, None, IsTrue, refl, sym, ◌∙◌}
use Rattle.std.proofs.Common.{ap, subst, arith, eq-eqb, length-append}
use Rattle.std.specs.Prelude.{slice_index}
use Rattle.std.proofs.lemmas.Bool.{and_from, or_left, or_right}
use Rattle.stm_wire.specs.declared.chip.EraseKind.{EraseKind}
use Rattle.stm_wire.specs.declared.chip.EraseKind.TheVariants.{Page, Extended}
use Rattle.stm_wire.specs.declared.places.UniquePlace.{UniquePlace}
use Rattle.stm_wire.specs.declared.verdict.Verdict.{Verdict}
use Rattle.stm_wire.specs.declared.verdict.Verdict.TheVariants.{Done, Refused}
use Rattle.stm_wire.proofs.Names.{address_bytes, all_exist, asks_unique, can_read, ChipData, command, complement, Connected, Device, done_if, erase_frame, fits_inside, flash_size, has_size}
use Rattle.stm_wire.proofs.Names.{has_unique, is_inside, is_listed, is_readable, IsDevice, ListsKind, phase_after, read_frame, read_verdict, two_byte_numbers, verdict, with_checksum, write_frame}
use Rattle.stm_wire.proofs.Names.{write_verdict, xor}
use Rattle.stm_weak.proofs.Calm.{IsCalmRest, IsCalmTail, calm_nothing, rest_one, rest_two}
use Rattle.stm_weak.proofs.Openness.{after_right, inside_if_fits, open_erase, open_write}
use Rattle.stm_weak.proofs.Openness.{verdict_listed}
use Rattle.stm_weak.proofs.Tails.{erase_calm, extended_calm, extended_not_loose, get_calm}
use Rattle.stm_weak.proofs.Tails.{get_id_calm, repeated_extended, repeated_read, told_read}
use Rattle.stm_weak.proofs.Tails.{write_calm}
use Rattle.stm_weak.proofs.UniqueReads.{outside}
use Rattle.stm_weak.proofs.Unread.{IsOpenTo}

-- while these follow what came, each rest is calm for this byte
abbrev pub IsCalmAlong : ChipData → List ℕ → ℕ → List ℕ → List ℕ → Type 0
IsCalmAlong chip codes byte done [] = Unit {0}
IsCalmAlong chip codes byte done (next ∷ more) =
    IsCalmRest chip codes byte done × IsCalmAlong chip codes byte (done ++ next ∷ []) more

-- the list has a verdict, behind which the device waits for a command
abbrev pub IsEnd : ChipData → List ℕ → List ℕ → Type 0
IsEnd chip codes bytes =
    ((verdict chip codes bytes ≡ Some Done) × (phase_after bytes ≡ Connected []))
    ⊎ (verdict chip codes bytes ≡ Some Refused)

-- a frame of which each beginning is calm, and that ends so
pub record IsCalmFrame (chip : ChipData) (codes frame : List ℕ) : Type 0 where
  pub waits : IsOpenTo chip codes [] frame
  pub calm : (byte : ℕ) → byte < 256 → IsCalmAlong chip codes byte [] frame
  pub ends : IsEnd chip codes frame

tested_end : (chip : ChipData) (codes bytes : List ℕ) (t : Bool)
    → verdict chip codes bytes ≡ Some (done_if t) → phase_after bytes ≡ Connected []
    → IsEnd chip codes bytes
tested_end chip codes bytes true e after = inl (e, after)
tested_end chip codes bytes false e after = inr e

-- Of a command that is calm, whatever follows:

along_behind : (chip : ChipData) (codes : List ℕ) (byte code : ℕ) (so_far rest : List ℕ)
    → IsTrue (is_listed codes code) → ((tail : List ℕ) → IsCalmTail chip code tail)
    → IsCalmAlong chip codes byte (code ∷ complement code ∷ so_far) rest
along_behind chip codes byte code so_far [] listed calm = tt
along_behind chip codes byte code so_far (next ∷ more) listed calm = (
  rest_two chip codes byte code so_far listed (λ k. calm (so_far ++ replicate (suc k) byte)),
  along_behind chip codes byte code (so_far ++ next ∷ []) more listed calm,
)

along_calm : (chip : ChipData) (codes : List ℕ) (byte code : ℕ) (rest : List ℕ)
    → IsTrue (is_listed codes code) → ((tail : List ℕ) → IsCalmTail chip code tail)
    → IsCalmAlong chip codes byte [] (code ∷ complement code ∷ rest)
along_calm chip codes byte code rest listed calm = (
  calm_nothing chip codes byte,
  (
    rest_one chip codes byte code listed (λ k same. calm (replicate k byte)),
    along_behind chip codes byte code [] rest listed calm,
  ),
)

pub get_frame_calm : (d : Device) → IsDevice d → IsCalmFrame d.chip d.codes (command 0x00)
get_frame_calm d is = record {
  waits = (refl, tt);
  calm = λ byte small. along_calm d.chip d.codes byte 0x00 [] is.get (get_calm d.chip);
  ends = inl (verdict_listed d.chip d.codes 0x00 [] is.get, refl);
}

pub get_id_frame_calm : (d : Device) → IsDevice d → IsCalmFrame d.chip d.codes (command 0x02)
get_id_frame_calm d is = record {
  waits = (refl, tt);
  calm = λ byte small. along_calm d.chip d.codes byte 0x02 [] is.get_id (get_id_calm d.chip);
  ends = inl (verdict_listed d.chip d.codes 0x02 [] is.get_id, refl);
}

-- an erase of one page
extended_along : (chip : ChipData) (codes : List ℕ) (byte n : ℕ) → IsTrue (is_listed codes 0x44)
    → byte < 256 → IsCalmAlong chip codes byte [] (erase_frame Extended n)
extended_along chip codes byte n listed small = (
  calm_nothing chip codes byte,
  (
    rest_one chip codes byte 0x44 listed (λ k same. repeated_extended chip byte k small),
    (
      rest_two chip codes byte 0x44 [] listed (λ k. repeated_extended chip byte (suc k) small),
      (
        rest_two chip codes byte 0x44 (0 ∷ []) listed
            (λ k. extended_calm chip (0 ∷ byte ∷ replicate k byte)
            (extended_not_loose chip 0 byte (replicate k byte)
            (λ le. omega (arith, le, small)))),
        (
          behind (0 ∷ 0 ∷ []) (λ k. replicate (suc k) byte) (λ k. refl),
          (
            behind (0 ∷ 0 ∷ n / 256 ∷ []) (λ k. n / 256 ∷ replicate (suc k) byte) (λ k. refl),
            (
              behind (0 ∷ 0 ∷ n / 256 ∷ n % 256 ∷ [])
                  (λ k. n / 256 ∷ n % 256 ∷ replicate (suc k) byte) (λ k. refl),
              tt,
            ),
          ),
        ),
      ),
    ),
  ),
)
  where
    behind : (so_far : List ℕ) (rest : ℕ → List ℕ)
        → ((k : ℕ) → so_far ++ replicate (suc k) byte ≡ 0 ∷ 0 ∷ rest k)
        → IsCalmRest chip codes byte (0x44 ∷ complement 0x44 ∷ so_far)
    behind so_far rest e = rest_two chip codes byte 0x44 so_far listed
        (λ k. (let P : List ℕ → Type 0 = λ xs. IsCalmTail chip 0x44 xs in
        subst P (sym (e k)) (extended_calm chip (0 ∷ 0 ∷ rest k)
        (extended_not_loose chip 0 0 (rest k) (λ le. omega (arith, le))))))

pub erase_frame_calm : (chip : ChipData) (codes : List ℕ) (kind : EraseKind) (n : ℕ)
    → ListsKind kind codes → IsCalmFrame chip codes (erase_frame kind n)
erase_frame_calm chip codes Page n lists = record {
  waits = open_erase chip codes Page n lists;
  calm = λ byte small. along_calm chip codes byte 0x43 (with_checksum (0 ∷ n ∷ [])) lists.0
      (erase_calm chip);
  ends =
      let data' : List ℕ = n ∷ xor (0 ∷ n ∷ []) ∷ [] in
      tested_end chip codes (erase_frame Page n)
      (slice_index data' 1 == xor (0 ∷ take 1 data') && all_exist chip (take 1 data'))
      (verdict_listed chip codes 0x43 (with_checksum (0 ∷ n ∷ [])) lists.0) refl;
}
erase_frame_calm chip codes Extended n lists = record {
  waits = open_erase chip codes Extended n lists;
  calm = λ byte small. extended_along chip codes byte n lists.0 small;
  ends =
      let data' : List ℕ = n / 256 ∷ n % 256 ∷ xor (0 ∷ 0 ∷ n / 256 ∷ n % 256 ∷ []) ∷ [] in
      tested_end chip codes (erase_frame Extended n)
      (slice_index data' 2 == xor ((0 ∷ 0 ∷ []) ++ take 2 data')
      && all_exist chip (two_byte_numbers (take 2 data')))
      (verdict_listed chip codes 0x44 (with_checksum (0 ∷ 0 ∷ n / 256 ∷ n % 256 ∷ [])) lists.0)
      refl;
}

-- a write into the flash
whole_write : (chip : ChipData) (address n : ℕ) (rest : List ℕ) → length rest ≡ n + 2
    → write_verdict chip address (n ∷ rest)
    ≡ Some (done_if (slice_index rest (n + 1) == xor (n ∷ take (n + 1) rest)
    && fits_inside chip address (n + 1)))
whole_write chip address n rest size =
    let test = slice_index rest (n + 1) == xor (n ∷ take (n + 1) rest)
    && fits_inside chip address (n + 1) in
    let choose : Bool → Option Verdict = λ b. if b then Some (done_if test) else None in
    ap choose (eq-eqb (length rest) (n + 2) size)

pub write_frame_calm : (chip : ChipData) (codes : List ℕ) (address : ℕ) (bytes : List ℕ)
    → IsTrue (is_listed codes 0x31) → 1 ≤ length bytes
    → IsTrue (fits_inside chip address (length bytes))
    → IsCalmFrame chip codes (write_frame address bytes)
write_frame_calm chip codes address bytes listed some fits =
    let n = length bytes - 1 in
    let rest = bytes ++ xor (n ∷ bytes) ∷ [] in
    let size : length rest ≡ length bytes + 1 = length-append bytes (xor (n ∷ bytes) ∷ []) in
    let inside = inside_if_fits chip address (length bytes) some fits in
    let head = with_checksum (address_bytes address) in record {
      waits = open_write chip codes address n listed inside rest (omega (arith, size))
          (omega (arith, size, some));
      calm = λ byte small. along_calm chip codes byte 0x31 (head ++ n ∷ rest) listed
          (write_calm chip);
      ends = tested_end chip codes (write_frame address bytes)
          (slice_index rest (n + 1) == xor (n ∷ take (n + 1) rest)
          && fits_inside chip address (n + 1))
          (verdict_listed chip codes 0x31 (head ++ n ∷ rest) listed
          ∙ after_right (is_inside chip) (write_verdict chip) address (n ∷ rest) inside
          ∙ whole_write chip address n rest (omega (arith, size, some))) refl;
    }

-- behind the code of a read, and at most the four bytes of an address and their check
pub early_calm : (chip : ChipData) (codes : List ℕ) → IsTrue (is_listed codes 0x11) → (byte : ℕ)
    (so_far : List ℕ) → length so_far ≤ 5
    → IsCalmRest chip codes byte (0x11 ∷ complement 0x11 ∷ so_far)
early_calm chip codes listed byte so_far short = rest_two chip codes byte 0x11 so_far listed
    (λ k. repeated_read chip so_far byte (suc k) short)

-- A read where the device tells its board.
module _ (chip : ChipData) (codes : List ℕ) (address n : ℕ) (listed : IsTrue (is_listed codes 0x11))
    (readable : IsTrue (is_readable chip address))
    (beside : (size p : ℕ) → IsTrue (can_read chip address size) → p < flash_size chip
    → address ≤ chip.base + p → chip.base + p < address + size → ⊥) where
  a : ℕ
  a = address / 16777216

  b : ℕ
  b = address / 65536 % 256

  c : ℕ
  c = address / 256 % 256

  d : ℕ
  d = address % 256

  at : (rest : List ℕ) → verdict chip codes (command 0x11 ++ with_checksum
      (address_bytes address) ++ rest) ≡ read_verdict chip address rest
  at rest = verdict_listed chip codes 0x11 (with_checksum (address_bytes address) ++ rest) listed
      ∙ after_right (is_readable chip) (read_verdict chip) address rest readable

  read_along : (byte : ℕ) → IsCalmAlong chip codes byte [] (command 0x11 ++ with_checksum
      (address_bytes address) ++ command n)
  unfolding a b c d
  read_along byte = (
    calm_nothing chip codes byte,
    (
      rest_one chip codes byte 0x11 listed (λ k same. repeated_read chip [] byte k (omega arith)),
      (
        early_calm chip codes listed byte [] (omega arith),
        (
          early_calm chip codes listed byte (a ∷ []) (omega arith),
          (
            early_calm chip codes listed byte (a ∷ b ∷ []) (omega arith),
            (
              early_calm chip codes listed byte (a ∷ b ∷ c ∷ []) (omega arith),
              (
                early_calm chip codes listed byte (address_bytes address) (omega arith),
                (
                  early_calm chip codes listed byte (with_checksum (address_bytes address)) (omega arith),
                  (
                    rest_two chip codes byte 0x11 (with_checksum (address_bytes address) ++ n ∷ [])
                        listed (λ k. told_read chip address n byte k beside),
                    tt,
                  ),
                ),
              ),
            ),
          ),
        ),
      ),
    ),
  )

  read_open : IsOpenTo chip codes [] (command 0x11 ++ with_checksum
      (address_bytes address) ++ command n)
  unfolding a b c d
  read_open =
      let told = λ (rest : List ℕ). verdict_listed chip codes 0x11 rest listed in (
        refl,
        (
          told [],
          (
            told (a ∷ []),
            (
              told (a ∷ b ∷ []),
              (
                told (a ∷ b ∷ c ∷ []),
                (told (address_bytes address), (at [], (at (n ∷ []), tt))),
              ),
            ),
          ),
        ),
      )

  pub read_frame_calm : IsCalmFrame chip codes (command 0x11 ++ with_checksum
      (address_bytes address) ++ command n)
  read_frame_calm = record {
    waits = read_open;
    calm = λ byte small. read_along byte;
    ends = tested_end chip codes (command 0x11 ++ with_checksum (address_bytes address) ++ command n)
        (complement n == complement n && can_read chip address (n + 1)) (at (command n)) refl;
  }

-- which it does where it has a unique id of the length of its place
readable_unique : (chip : ChipData) (place : UniquePlace) → chip.places.unique ≡ Some place
    → length chip.unique ≡ place.length → IsTrue (is_readable chip place.address)
unfolding is_readable
readable_unique chip place told size =
    let n = length chip.unique in
    let P : Option UniquePlace → Type 0 = λ o. IsTrue (has_unique o place.address n) in
    let has : IsTrue (has_unique chip.places.unique place.address n) = subst P (sym told)
    (and_from _ _ (eq-eqb place.address place.address refl) (eq-eqb place.length n (sym size))) in
    or_right (is_inside chip place.address) _
    (or_left (asks_unique chip place.address n) (has_size chip.places.size place.address)
    (and_from (has_unique chip.places.unique place.address n) (n == n) has (eq-eqb n n refl)))

pub unique_frame_calm : (d : Device) (place : UniquePlace) (size : ℕ) → IsDevice d
    → d.chip.places.unique ≡ Some place → length d.chip.unique ≡ place.length
    → IsCalmFrame d.chip d.codes (read_frame place.address size)
unique_frame_calm d place size is told long =
    read_frame_calm d.chip d.codes place.address (size - 1) is.read
    (readable_unique d.chip place told long) (outside d.chip place is.chip told)
