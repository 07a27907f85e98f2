-- What lies in a page lies in the flash.
use Rattle.std.proofs.Common.{ℕ, IsTrue, arith}
use Rattle.std.proofs.lemmas.Bool.Decides.{nat_tests}
use Rattle.stm_wire.proofs.Names.{ChipData, fits_inside, InPage}
use Rattle.stm_wire.specs.lemmas.PageLaws.{page_within}

-- what lies in a page lies in the flash
pub page_inside : (chip : ChipData) (page address size : ℕ) → InPage chip page address size → IsTrue (fits_inside chip address size)
page_inside chip page address size within =
    let from = within.begins in
    let to = within.ends in
    let inside = page_within chip.sizes page in
    grind (arith, nat_tests)
