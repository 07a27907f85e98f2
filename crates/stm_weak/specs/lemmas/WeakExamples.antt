-- Worked rows, of a chip with two pages of 256 bytes, of which the second is weak.
use Rattle.std.proofs.Common.{◌≡◌, ℕ, ◌≤◌, ◌<◌, Bool, ◌==◌, List, [], ◌∷◌, replicate, refl, zero}
use Rattle.std.proofs.Common.{suc, get_or, subst, arith}
use Rattle.std.proofs.lemmas.Bool.{eqb-true}
use Rattle.stm_wire.specs.declared.chip.EraseKind.TheVariants.{Page}
use Rattle.stm_wire.specs.Chip.{ChipData, chip_of, page_offset}
use Rattle.stm_wire.specs.Device.{Connected}
use Rattle.stm_wire.specs.Effect.{change_of}
use Rattle.stm_wire.specs.lemmas.Examples.{medium_codes}
use Rattle.stm_wire.specs.Frames.{erase_frame, read_frame, write_frame}
use Rattle.stm_wire.specs.Telling.{can_read, is_readable}
use Rattle.stm_weak.specs.WeakDevice.{ErasesPage, Heals, IsWeakAt, ReadsPlace, ReadsWeak}
use Rattle.stm_weak.specs.WeakDevice.{WeakDevice}

abbrev pub two_pages : ChipData
two_pages = chip_of 0x412 0x08000000 (256 ∷ 256 ∷ []) Page 0xFF

abbrev pub second : ℕ → Bool
second n = n == 1

-- it has these bytes of a list
abbrev pub with_weak_page : List ℕ → WeakDevice
with_weak_page rest = record {
  device = record {
    chip = two_pages;
    version = 0x22;
    codes = medium_codes;
    flash = replicate 512 0;
    owed = [];
    phase = Connected rest;
  };
  weak = second;
}

-- the last byte of an erase of page 1 heals it
erase_heals_it : Heals 0x01 (with_weak_page (0x43 ∷ 0xBC ∷ 0x00 ∷ 0x01 ∷ [])).device 1
erase_heals_it = (
  erase_frame Page 1,
  record { rest = 0x43 ∷ 0xBC ∷ 0x00 ∷ 0x01 ∷ []; phase = refl; is = refl; done = refl },
  (0, omega arith, refl),
)

abbrev first_page : List ℕ
first_page = 0 ∷ []

-- an erase of page 0 doesn't, and neither does a write into page 1
other_erase_heals_none : ErasesPage (change_of (erase_frame Page 0)) 1 → ⊥
other_erase_heals_none (k, lt, e) = first k lt e
  where
    first : (k : ℕ) → k < 1 → get_or first_page k 1 ≡ 1 → ⊥
    first zero lt e = omega (arith, e)
    first (suc k) lt e = omega (arith, lt)

write_heals_none : ErasesPage (change_of (write_frame 0x08000100 (1 ∷ 2 ∷ 3 ∷ 4 ∷ []))) 1 → ⊥
write_heals_none erases = erases

-- the last byte of a read of four bytes of page 1 completes a read of a weak page
read_is_weak : ReadsWeak 0xFC
    (with_weak_page (0x11 ∷ 0xEE ∷ 0x08 ∷ 0x00 ∷ 0x01 ∷ 0x00 ∷ 0x09 ∷ 0x03 ∷ []))
unfolding is_readable can_read
read_is_weak = (
  read_frame 0x08000100 4,
  256,
  record {
    rest = 0x11 ∷ 0xEE ∷ 0x08 ∷ 0x00 ∷ 0x01 ∷ 0x00 ∷ 0x09 ∷ 0x03 ∷ [];
    phase = refl;
    is = refl;
    done = refl;
  },
  (refl, (omega arith, omega arith)),
  record { page = 1; is = refl; from = omega arith; to = omega arith },
)

-- a read of page 0 has no place in it
read_beside_is_sound : (place : ℕ) → ReadsPlace two_pages (read_frame 0x08000000 4) place
    → IsWeakAt two_pages second place → ⊥
read_beside_is_sound place reads weak =
    let P : ℕ → Type 0 = λ n. page_offset two_pages n ≤ place in
    let from : 256 ≤ place = subst P (eqb-true weak.page 1 weak.is) weak.from in
    omega (arith, from, reads.1.1)
