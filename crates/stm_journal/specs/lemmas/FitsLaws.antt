-- What it says of a kept page that the chip has it.
use Rattle.std.proofs.Common.{◌≡◌, ℕ, ◌<◌, Bool, true, false, ◌&&◌, ◌==◌, nat_lt, length, refl}
use Rattle.std.proofs.Common.{sym, arith}
use Rattle.std.proofs.lemmas.Bool.{true≢false}
use Rattle.std.proofs.lemmas.Bool.Decides.{nat_tests}
use Rattle.stm_wire.specs.Chip.{ChipData, page_count, page_size}
use Rattle.stm_journal.specs.declared.kept.Kept.{Kept}
use Rattle.stm_journal.specs.Fits.{fits_chip}

both : (a b : Bool) → (a && b) ≡ true → (a ≡ true) × (b ≡ true)
both true b h = (refl, h)
both false b h = absurd (true≢false (sym h))

pub fits-exists : (chip : ChipData) (kept : Kept) → fits_chip chip kept ≡ true
    → kept.page < page_count chip
fits-exists chip kept fits =
    less kept.page (page_count chip)
    (both (nat_lt kept.page (page_count chip))
    (length kept.bytes == page_size chip kept.page) fits).0
  where
    less : (a b : ℕ) → nat_lt a b ≡ true → a < b
    less a b h = grind (arith, nat_tests)

pub fits-size : (chip : ChipData) (kept : Kept) → fits_chip chip kept ≡ true
    → length kept.bytes ≡ page_size chip kept.page
fits-size chip kept fits =
    same (length kept.bytes) (page_size chip kept.page)
    (both (nat_lt kept.page (page_count chip))
    (length kept.bytes == page_size chip kept.page) fits).1
  where
    same : (a b : ℕ) → (a == b) ≡ true → a ≡ b
    same a b h = grind (arith, nat_tests)

pub both-fit : (chip : ChipData) (kept : Kept) → kept.page < page_count chip
    → length kept.bytes ≡ page_size chip kept.page → fits_chip chip kept ≡ true
both-fit chip kept exists size =
    joined (nat_lt kept.page (page_count chip)) (length kept.bytes == page_size chip kept.page)
    (less kept.page (page_count chip) exists)
    (same (length kept.bytes) (page_size chip kept.page) size)
  where
    joined : (a b : Bool) → a ≡ true → b ≡ true → (a && b) ≡ true
    joined true b p q = q
    joined false b p q = p

    less : (a b : ℕ) → a < b → nat_lt a b ≡ true
    less a b h = grind (arith, nat_tests)

    same : (a b : ℕ) → a ≡ b → (a == b) ≡ true
    same a b h = grind (arith, nat_tests)
