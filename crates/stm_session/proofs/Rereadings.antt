-- A page is read again behind its return.
use Rattle.std.proofs.Common.{◌≡◌, ℕ, Bool, true, false, List, [], ◌++◌, refl, sym, ◌∙◌, ap, subst, append-nil, append_assoc, length}
use Rattle.stm_wire.proofs.Names.{ChipData, Device, flash_size, IsDevice, page_of, page_size, with_page}
use Rattle.stm_wire.specs.lemmas.PageLaws.{page_put}
use Rattle.stm_session.proofs.Names.{Are, Begin, give_back_steps, page_reads, return_steps, Step}

-- its return is begun with giving it back
pub restore_begun : (again : Bool) (chip : ChipData) (n : ℕ) (held page : List ℕ) (xs : List Step) → Begin (Are (give_back_steps chip n held page)) xs → Begin (Are (return_steps again chip n held page)) xs
restore_begun false chip n held page xs begun = begun
restore_begun true chip n held page xs (rest, is) =
    let reads = page_reads chip n page in
    (rest ++ reads, sym (append_assoc xs rest reads) ∙ ap (λ (l : List Step). l ++ reads) is)

-- and is all of both
pub return_is : (again : Bool) (chip : ChipData) (n : ℕ) (held page : List ℕ) → again ≡ true → give_back_steps chip n held page ++ page_reads chip n page ≡ return_steps again chip n held page
return_is again chip n held page is =
    let own = give_back_steps chip n held page ++ page_reads chip n page in
    let P : Bool → Type 0 = λ b. own ≡ return_steps b chip n held page in
    subst P (sym is) refl

pub return_whole : (again : Bool) (chip : ChipData) (n : ℕ) (held page : List ℕ) → again ≡ true → Begin (Are (return_steps again chip n held page)) (give_back_steps chip n held page ++ page_reads chip n page)
return_whole again chip n held page is = ([], append-nil (give_back_steps chip n held page ++ page_reads chip n page) ∙ return_is again chip n held page is)

-- a page that was put holds its bytes
pub holds_put : (chip : ChipData) (n : ℕ) (page : List ℕ) (d : Device) (flash : List ℕ) → IsDevice d → d.chip ≡ chip → length page ≡ page_size chip n → flash ≡ with_page chip n page d.flash → page_of chip flash n ≡ page
holds_put chip n page d flash is chip_is whole put =
    ap (λ (f : List ℕ). page_of chip f n) put ∙ page_put chip d.flash page n (is.size ∙ ap (λ (c : ChipData). flash_size c) chip_is) whole
