-- What may follow a command's code, so that it is calm: no loose verdict, and no read of the flash.
use Rattle.std.proofs.Common.{◌≡◌, ℕ, zero, suc, ◌+◌, ◌*◌, ◌-◌, ◌/◌, ◌%◌, ◌<◌, ◌≤◌, Bool, true, false}
use Rattle.std.proofs.Common.{◌&&◌, ◌==◌, nat_le, if◌then◌else◌, List, [], ◌∷◌, ◌++◌, length, take}
use Rattle.std.proofs.Common.{get_or, replicate, Option, Some, None, IsTrue, refl, sym, ◌∙◌}
use Rattle.std.proofs.Common.{subst, arith, length-append}
use Rattle.std.specs.Prelude.{slice_index}
use Rattle.std.proofs.lemmas.Bool.{and_parts, eqb-true, eqb-false, leb-true}
use Rattle.std.proofs.lemmas.List.{get_or-append_right, get_or-replicate, length-replicate}
use Rattle.stm_wire.specs.declared.verdict.Verdict.{Verdict}
use Rattle.stm_wire.specs.declared.verdict.Verdict.TheVariants.{Done, Refused, Loose}
use Rattle.stm_wire.proofs.Names.{address_bytes, after_address, all_exist, all_verdict, at_end, can_read, ChipData, command_verdict, complement, done_if, erase_verdict, extended_verdict, fits_inside}
use Rattle.stm_wire.proofs.Names.{flash_size, is_inside, is_readable, number_of, pages_verdict, pair_of, read_verdict, two_byte_numbers, with_checksum, write_verdict, xor}
use Rattle.stm_weak.specs.WeakDevice.{IsInRead}
use Rattle.stm_weak.proofs.Openness.{same_number}
use Rattle.stm_weak.proofs.Calm.{IsCalmTail, at_end_is, no_verdict, refused_not_done}
use Rattle.stm_weak.proofs.Calm.{refused_not_loose, done_not_loose, same_verdict, tested_done}
use Rattle.stm_weak.proofs.Calm.{tested_not_loose, unlike}

-- no verdict of these is loose

end_not_loose : (v : Verdict) (rest : List ℕ) → (v ≡ Loose → ⊥) → at_end v rest ≡ Some Loose → ⊥
end_not_loose v rest f e = f (at_end_is v Loose rest e)

address_not_loose : (takes : ℕ → Bool) (next : ℕ → List ℕ → Option Verdict) (tail : List ℕ)
    → ((address : ℕ) (rest : List ℕ) → next address rest ≡ Some Loose → ⊥)
    → after_address takes next tail ≡ Some Loose → ⊥
address_not_loose takes next (a ∷ b ∷ c ∷ d ∷ check ∷ rest) f e =
    by (check == xor (a ∷ b ∷ c ∷ d ∷ []) && takes (number_of a b c d)) e
  where
    by : (t : Bool)
        → (if t then next (number_of a b c d) rest else at_end Refused rest) ≡ Some Loose → ⊥
    by true e = f (number_of a b c d) rest e
    by false e = end_not_loose Refused rest refused_not_loose e
address_not_loose takes next tail f e = no_verdict Loose e

read_not_loose : (chip : ChipData) (address : ℕ) (rest : List ℕ)
    → read_verdict chip address rest ≡ Some Loose → ⊥
read_not_loose chip address (n ∷ check ∷ rest) e =
    end_not_loose (done_if (check == complement n && can_read chip address (n + 1))) rest
    (tested_not_loose (check == complement n && can_read chip address (n + 1))) e
read_not_loose chip address rest e = no_verdict Loose e

-- a test, or nothing yet
maybe_not_loose : (here t : Bool) → (if here then Some (done_if t) else None) ≡ Some Loose → ⊥
maybe_not_loose true t e = tested_not_loose t (same_verdict (done_if t) Loose e)
maybe_not_loose false t e = no_verdict Loose e

write_not_loose : (chip : ChipData) (address : ℕ) (rest : List ℕ)
    → write_verdict chip address rest ≡ Some Loose → ⊥
write_not_loose chip address [] e = no_verdict Loose e
write_not_loose chip address (n ∷ rest) e =
    maybe_not_loose (length rest == n + 2)
    (slice_index rest (n + 1) == xor (n ∷ take (n + 1) rest) && fits_inside chip address (n + 1)) e

all_not_loose : (rest : List ℕ) → all_verdict rest ≡ Some Loose → ⊥
all_not_loose [] e = no_verdict Loose e
all_not_loose (check ∷ rest) e =
    end_not_loose (done_if (check == 0)) rest (tested_not_loose (check == 0)) e

erase_not_loose : (chip : ChipData) (tail : List ℕ) → erase_verdict chip tail ≡ Some Loose → ⊥
erase_not_loose chip [] e = no_verdict Loose e
erase_not_loose chip (n ∷ rest) e = by (n == 0xFF) e
  where
    by : (t : Bool) → (if t then all_verdict rest else
        (if length rest == n + 2
        then Some (done_if (slice_index rest (n + 1) == xor (n ∷ take (n + 1) rest)
        && all_exist chip (take (n + 1) rest)))
        else None)) ≡ Some Loose → ⊥
    by true e = all_not_loose rest e
    by false e = maybe_not_loose (length rest == n + 2)
        (slice_index rest (n + 1) == xor (n ∷ take (n + 1) rest)
        && all_exist chip (take (n + 1) rest)) e

-- a count of pages is loose from FFF0 on, but for FFFF
pub extended_not_loose : (chip : ChipData) (high low : ℕ) (rest : List ℕ)
    → (0xFFF0 ≤ pair_of high low → pair_of high low ≡ 0xFFFF)
    → extended_verdict chip (high ∷ low ∷ rest) ≡ Some Loose → ⊥
extended_not_loose chip high low rest small e =
    by (pair_of high low == 0xFFFF) refl (nat_le 0xFFF0 (pair_of high low)) refl e
  where
    pages : List ℕ → ℕ → Option Verdict
    pages count size = pages_verdict chip count size rest

    by : (all : Bool) → (pair_of high low == 0xFFFF) ≡ all → (loose : Bool)
        → nat_le 0xFFF0 (pair_of high low) ≡ loose
        → (if all then all_verdict rest else (if loose
        then (if length rest == 1 then Some Loose else None)
        else pages_verdict chip (high ∷ low ∷ []) (2 * (pair_of high low + 1)) rest))
        ≡ Some Loose → ⊥
    by true is loose at e = all_not_loose rest e
    by false is true at e = eqb-false (pair_of high low) 0xFFFF is
        (small (leb-true 0xFFF0 (pair_of high low) at))
    by false is false at e =
        let size = 2 * (pair_of high low + 1) in
        maybe_not_loose (length rest == size + 1)
        (slice_index rest size == xor ((high ∷ low ∷ []) ++ take size rest)
        && all_exist chip (two_byte_numbers (take size rest))) e

-- Commands that read no flash, and are never loose:

other : (chip : ChipData) (code : ℕ) (tail : List ℕ)
    → (command_verdict chip code tail ≡ Some Loose → ⊥) → (code ≡ 0x11 → ⊥)
    → IsCalmTail chip code tail
other chip code tail never ne = (never, λ place e lt same r. ne same)

pub get_calm : (chip : ChipData) (tail : List ℕ) → IsCalmTail chip 0x00 tail
get_calm chip tail = other chip 0x00 tail (end_not_loose Done tail done_not_loose)
    (λ (e : 0 ≡ 0x11). omega (arith, e))

pub get_id_calm : (chip : ChipData) (tail : List ℕ) → IsCalmTail chip 0x02 tail
get_id_calm chip tail = other chip 0x02 tail (end_not_loose Done tail done_not_loose)
    (λ (e : 2 ≡ 0x11). omega (arith, e))

pub write_calm : (chip : ChipData) (tail : List ℕ) → IsCalmTail chip 0x31 tail
write_calm chip tail = other chip 0x31 tail
    (address_not_loose (is_inside chip) (write_verdict chip) tail (write_not_loose chip))
    (λ (e : 0x31 ≡ 0x11). omega (arith, e))

pub erase_calm : (chip : ChipData) (tail : List ℕ) → IsCalmTail chip 0x43 tail
erase_calm chip tail = other chip 0x43 tail (erase_not_loose chip tail)
    (λ (e : 0x43 ≡ 0x11). omega (arith, e))

pub extended_calm : (chip : ChipData) (tail : List ℕ)
    → (extended_verdict chip tail ≡ Some Loose → ⊥) → IsCalmTail chip 0x44 tail
extended_calm chip tail never = other chip 0x44 tail never (λ (e : 0x44 ≡ 0x11). omega (arith, e))

-- A byte so often, behind others: pages of two bytes each.
pub repeated_extended : (chip : ChipData) (byte k : ℕ) → byte < 256
    → IsCalmTail chip 0x44 (replicate k byte)
repeated_extended chip byte zero small = extended_calm chip [] (λ e. no_verdict Loose e)
repeated_extended chip byte (suc zero) small =
    extended_calm chip (byte ∷ []) (λ e. no_verdict Loose e)
repeated_extended chip byte (suc (suc k)) small = extended_calm chip
    (byte ∷ byte ∷ replicate k byte)
    (extended_not_loose chip byte byte (replicate k byte) (λ le. omega (arith, le, small)))

-- A read: its verdict comes with its seventh byte, which has to be the complement of the sixth.

pub in_read_done : (chip : ChipData) (a b c d check n last : ℕ) (rest : List ℕ)
    → command_verdict chip 0x11 (a ∷ b ∷ c ∷ d ∷ check ∷ n ∷ last ∷ rest) ≡ Some Done
    → (last ≡ complement n) × (rest ≡ []) × IsTrue (can_read chip (number_of a b c d) (n + 1))
in_read_done chip a b c d check n last rest e =
    by (check == xor (a ∷ b ∷ c ∷ d ∷ []) && is_readable chip (number_of a b c d)) e
  where
    address : ℕ
    address = number_of a b c d

    Told : Type 0
    Told = (last ≡ complement n) × (rest ≡ []) × IsTrue (can_read chip (number_of a b c d) (n + 1))

    ended : (xs : List ℕ)
        → at_end (done_if (last == complement n && can_read chip (number_of a b c d) (n + 1))) xs
        ≡ Some Done
        → (last ≡ complement n) × (xs ≡ []) × IsTrue (can_read chip (number_of a b c d) (n + 1))
    ended [] e =
        let test = last == complement n && can_read chip (number_of a b c d) (n + 1) in
        let parts = and_parts (last == complement n) (can_read chip (number_of a b c d) (n + 1))
        (tested_done test (same_verdict (done_if test) Done e)) in
        (eqb-true last (complement n) parts.0, refl, parts.1)
    ended (x ∷ xs) e = absurd (no_verdict Done e)

    by : (t : Bool)
        → (if t then read_verdict chip (number_of a b c d) (n ∷ last ∷ rest)
        else at_end Refused (n ∷ last ∷ rest)) ≡ Some Done
        → (last ≡ complement n) × (rest ≡ []) × IsTrue (can_read chip (number_of a b c d) (n + 1))
    by true e = ended rest e
    by false e = absurd (no_verdict Done e)

pub six_open : (chip : ChipData) (a b c d check n : ℕ)
    → command_verdict chip 0x11 (a ∷ b ∷ c ∷ d ∷ check ∷ n ∷ []) ≡ Some Done → ⊥
six_open chip a b c d check n e =
    by (check == xor (a ∷ b ∷ c ∷ d ∷ []) && is_readable chip (number_of a b c d)) e
  where
    by : (t : Bool)
        → (if t then read_verdict chip (number_of a b c d) (n ∷ []) else at_end Refused (n ∷ []))
        ≡ Some Done → ⊥
    by true e = no_verdict Done e
    by false e = no_verdict Done e

pub five_open : (chip : ChipData) (a b c d check : ℕ)
    → command_verdict chip 0x11 (a ∷ b ∷ c ∷ d ∷ check ∷ []) ≡ Some Done → ⊥
five_open chip a b c d check e =
    by (check == xor (a ∷ b ∷ c ∷ d ∷ []) && is_readable chip (number_of a b c d)) e
  where
    by : (t : Bool)
        → (if t then read_verdict chip (number_of a b c d) [] else at_end Refused []) ≡ Some Done
        → ⊥
    by true e = no_verdict Done e
    by false e = refused_not_done (same_verdict Refused Done e)

-- where these two bytes are one, it isn't done
twin_read : (chip : ChipData) (tail : List ℕ) (place : ℕ)
    → (7 ≤ length tail → get_or tail 5 0 ≡ get_or tail 6 0)
    → command_verdict chip 0x11 tail ≡ Some Done → IsInRead chip tail place → ⊥
twin_read chip (a ∷ b ∷ c ∷ d ∷ check ∷ n ∷ []) place same e r = six_open chip a b c d check n e
twin_read chip (a ∷ b ∷ c ∷ d ∷ check ∷ n ∷ last ∷ rest) place same e r =
    unlike n (same (omega arith) ∙ (in_read_done chip a b c d check n last rest e).0)
twin_read chip tail place same e r = r

reading_not_loose : (chip : ChipData) (tail : List ℕ)
    → command_verdict chip 0x11 tail ≡ Some Loose → ⊥
reading_not_loose chip tail e =
    address_not_loose (is_readable chip) (read_verdict chip) tail (read_not_loose chip) e

-- two of the byte are one behind the others
repeated_at : (so_far : List ℕ) (byte k i : ℕ) → length so_far ≤ i
    → i < length (so_far ++ replicate k byte) → get_or (so_far ++ replicate k byte) i 0 ≡ byte
repeated_at so_far byte k i le lt =
    get_or-append_right so_far (replicate k byte) (length so_far) i 0 refl le
    ∙ get_or-replicate k (i - length so_far) byte 0
    (omega (arith, lt, le, length-append so_far (replicate k byte), length-replicate k byte))

pub repeated_read : (chip : ChipData) (so_far : List ℕ) (byte k : ℕ) → length so_far ≤ 5
    → IsCalmTail chip 0x11 (so_far ++ replicate k byte)
repeated_read chip so_far byte k short = (
  reading_not_loose chip (so_far ++ replicate k byte),
  λ place e lt same r. twin_read chip (so_far ++ replicate k byte) place
      (λ long. repeated_at so_far byte k 5 short (omega (arith, long))
      ∙ sym (repeated_at so_far byte k 6 (omega (arith, short)) (omega (arith, long)))) e r,
)

-- Behind an address at which the device tells its board, and a count, it reads no flash.
pub told_read : (chip : ChipData) (address n byte k : ℕ)
    → ((size p : ℕ) → IsTrue (can_read chip address size) → p < flash_size chip
    → address ≤ chip.base + p → chip.base + p < address + size → ⊥)
    → IsCalmTail chip 0x11
    ((with_checksum (address_bytes address) ++ n ∷ []) ++ replicate (suc k) byte)
told_read chip address n byte k outside = (
  reading_not_loose chip ((with_checksum (address_bytes address) ++ n ∷ [])
      ++ replicate (suc k) byte),
  λ place e lt same r.
      let done = in_read_done chip (address / 16777216) (address / 65536 % 256)
      (address / 256 % 256) (address % 256) (xor (address_bytes address)) n byte
      (replicate k byte) e in
      let P : ℕ → Type 0 = λ m. IsTrue (can_read chip m (n + 1)) in
      outside (n + 1) place (subst P (same_number address) done.2) lt
      (omega (arith, r.0, same_number address)) (omega (arith, r.1, same_number address)),
)
