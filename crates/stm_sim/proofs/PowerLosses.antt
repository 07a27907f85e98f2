-- A device whose power was lost inside an erase or a write of a page.
use Rattle.std.proofs.Common.{◌≡◌, ℕ, ◌<◌, List, [], ◌∷◌, length, sym, ◌∙◌, arith}
use Rattle.stm_wire.proofs.Names.{Device, IsDevice, page_size, powered_again, SameOutside}
use Rattle.stm_wire.specs.lemmas.PageLaws.{length-with_page, page_put-other}

abbrev IsByte : ℕ → Type 0
IsByte b = b < 256

-- its other pages are as they were
pub powered-outside : (n : ℕ) (bytes : List ℕ) (d : Device) → IsDevice d → length bytes ≡ page_size d.chip n → SameOutside d.chip (n ∷ []) d.flash (powered_again n bytes d).flash
powered-outside n bytes d is whole =
    record {
      same_length = length-with_page d.chip d.flash bytes n is.size whole ∙ sym is.size;
      elsewhere = λ m here out. page_put-other d.chip d.flash bytes n is.size whole m here (λ e. out (0, omega arith, sym e));
    }
