-- A change within some pages leaves every other page as it was.
use Rattle.std.proofs.Common.{◌≡◌, ℕ, suc, ◌+◌, ◌-◌, ◌≤◌, List, [], ◌∷◌, length, take, drop, replicate, refl, sym, ap, ◌∙◌, subst, arith}
use Rattle.std.specs.Prelude.{⊤}
use Rattle.std.specs.List.{Contains}
use Rattle.std.proofs.lemmas.List.{length-replicate}
use Rattle.stm_wire.proofs.Names.{Change, ChipData, Effect, EraseAll, erased_byte, erased_pages, ErasePages, flash_size, Nothing, page_of, page_offset, page_size, SameOutside, Stores, with_bytes}
use Rattle.stm_wire.proofs.Names.{Write}
use Rattle.stm_wire.specs.lemmas.PageLaws.{page_within, length-with_bytes, other_page}

-- each of these
abbrev pub Every : (ℕ → Type 0) → List ℕ → Type 0
Every P [] = ⊤
Every P (x ∷ xs) = P x × Every P xs

-- the change keeps to these pages
abbrev pub IsConfined : ChipData → List ℕ → Change → Type 0
IsConfined chip pages Nothing = ⊤
IsConfined chip pages (ErasePages named) = Every (Contains pages) named
IsConfined chip pages EraseAll = ⊥
IsConfined chip pages (Write address sent) =
    (p : ℕ) × Contains pages p × (page_offset chip p ≤ address - chip.base) × (address - chip.base + length sent ≤ page_offset chip p + page_size chip p)

pub same_flash : (chip : ChipData) (pages : List ℕ) (old new : List ℕ) → new ≡ old → SameOutside chip pages old new
same_flash chip pages old new e = record { same_length = ap length e; elsewhere = λ n here out. ap (λ f. page_of chip f n) e }

pub then_same : (chip : ChipData) (pages : List ℕ) (old mid new : List ℕ) → SameOutside chip pages old mid → SameOutside chip pages mid new → SameOutside chip pages old new
then_same chip pages old mid new s t = record { same_length = t.same_length ∙ s.same_length; elsewhere = λ n here out. t.elsewhere n here out ∙ s.elsewhere n here out }

-- bytes put within a page of these
put_within : (chip : ChipData) (pages flash bytes : List ℕ) (at p : ℕ) → length flash ≡ flash_size chip → Contains pages p →
    page_offset chip p ≤ at → at + length bytes ≤ page_offset chip p + page_size chip p → SameOutside chip pages flash (with_bytes at bytes flash)
put_within chip pages flash bytes at p size mine from to = record {
  same_length = (let h = page_within chip.sizes p in length-with_bytes at bytes flash (omega arith));
  elsewhere = λ n here out. other_page chip flash bytes at n p size from to here (λ e. out (subst (Contains pages) (sym e) mine));
}

erased_within : (chip : ChipData) (pages named flash : List ℕ) → length flash ≡ flash_size chip → Every (Contains pages) named →
    SameOutside chip pages flash (erased_pages chip named flash)
erased_within chip pages [] flash size all = same_flash chip pages flash flash refl
erased_within chip pages (p ∷ named) flash size all =
    let fill = replicate (page_size chip p) (erased_byte chip) in
    let filled : length fill ≡ page_size chip p = length-replicate (page_size chip p) (erased_byte chip) in
    let first = put_within chip pages flash fill (page_offset chip p) p size all.0 (omega arith) (omega arith) in
    then_same chip pages flash (with_bytes (page_offset chip p) fill flash) (erased_pages chip (p ∷ named) flash) first
    (erased_within chip pages named (with_bytes (page_offset chip p) fill flash) (first.same_length ∙ size) all.1)

length-stores : (erased : ℕ) (olds sent new : List ℕ) → Stores erased olds sent new → length new ≡ length sent
length-stores e [] [] [] s = refl
length-stores e (o ∷ olds) (b ∷ sent) (n ∷ new) s = ap suc (length-stores e olds sent new s.2)
length-stores e [] [] (n ∷ new) s = absurd s
length-stores e [] (b ∷ sent) new s = absurd s
length-stores e (o ∷ olds) [] new s = absurd s
length-stores e (o ∷ olds) (b ∷ sent) [] s = absurd s

pub effect_within : (chip : ChipData) (pages : List ℕ) (change : Change) (old new : List ℕ) → length old ≡ flash_size chip →
    IsConfined chip pages change → Effect chip change old new → SameOutside chip pages old new
effect_within chip pages Nothing old new size c e = same_flash chip pages old new e
effect_within chip pages (ErasePages named) old new size c e = subst (SameOutside chip pages old) (sym e) (erased_within chip pages named old size c)
effect_within chip pages EraseAll old new size c e = absurd c
effect_within chip pages (Write address sent) old new size (p, mine, from, to) (written, s, e) =
    let same = length-stores (erased_byte chip) (take (length sent) (drop (address - chip.base) old)) sent written s in
    subst (SameOutside chip pages old) (sym e) (put_within chip pages old written (address - chip.base) p size mine from (omega arith))
