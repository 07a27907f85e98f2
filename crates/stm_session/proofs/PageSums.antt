-- The pages that a segment keeps are no more than the flash.
use Rattle.std.proofs.Common.{◌≡◌, ◌≢◌, ℕ, ◌+◌, ◌<◌, ◌≤◌, Bool, true, false, ◌||◌, ◌==◌, List, [], ◌∷◌, length, set, get_or, refl, sym, ◌∙◌, subst, arith}
use Rattle.std.specs.Prelude.{sum}
use Rattle.std.specs.List.{list_any}
use Rattle.std.proofs.lemmas.Bool.{false≢true, eq-eqb}
use Rattle.std.proofs.lemmas.List.{length-set, get_or-set_other}
use Rattle.std.proofs.lemmas.List.Sums.{sum_by-set}
use Rattle.stm_wire.proofs.Names.{ChipData, flash_size, page_count}
use Rattle.stm_journal.specs.declared.kept.Kept.{Kept}
use Rattle.stm_journal.proofs.Names.{AllKeptFit, LacksPage, PagesOnce}
use Rattle.stm_journal.specs.lemmas.FitsLaws.{fits-exists}

-- how many bytes these pages have together, of a flash whose pages have these sizes
abbrev sizes_of : List ℕ → List Kept → ℕ
sizes_of sizes [] = 0
sizes_of sizes (kept ∷ pages) = get_or sizes kept.page 0 + sizes_of sizes pages

abbrev AreBelow : ℕ → List Kept → Type 0
AreBelow count [] = Unit {0}
AreBelow count (kept ∷ pages) = (kept.page < count) × AreBelow count pages

are_below : (chip : ChipData) (pages : List Kept) → AllKeptFit chip pages → AreBelow (page_count chip) pages
are_below chip [] fit = tt
are_below chip (kept ∷ pages) (fits, fit) = (fits-exists chip kept fits, are_below chip pages fit)

first-false : (a b : Bool) → (a || b) ≡ false → a ≡ false
first-false true b h = h
first-false false b h = refl

second-false : (a b : Bool) → (a || b) ≡ false → b ≡ false
second-false true b h = absurd (false≢true (sym h))
second-false false b h = h

is-other : (m n : ℕ) → (m == n) ≡ false → m ≢ n
is-other m n other same = false≢true (sym other ∙ eq-eqb m n same)

-- a page that isn't among them may have any size
without : (sizes : List ℕ) (n : ℕ) (pages : List Kept) → LacksPage n pages → sizes_of (set sizes n 0) pages ≡ sizes_of sizes pages
without sizes n [] lacks = refl
without sizes n (kept ∷ pages) lacks =
    let other = is-other kept.page n (first-false (kept.page == n) (list_any (λ k. k.page == n) pages) lacks) in
    omega (arith, get_or-set_other sizes n kept.page 0 0 other, without sizes n pages (second-false (kept.page == n) (list_any (λ k. k.page == n) pages) lacks))

within : (sizes : List ℕ) (pages : List Kept) → PagesOnce pages → AreBelow (length sizes) pages → sizes_of sizes pages ≤ sum sizes
within sizes [] once below = omega arith
within sizes (kept ∷ pages) (lacks, once) (lt, below) =
    let P : ℕ → Type 0 = λ n. AreBelow n pages in
    let rest = within (set sizes kept.page 0) pages once (subst P (sym (length-set sizes kept.page 0)) below) in
    omega (arith, rest, without sizes kept.page pages lacks, sum_by-set (λ x. x) sizes kept.page 0 0 lt)

-- how many bytes these pages of a chip have
abbrev pub kept_size : ChipData → List Kept → ℕ
kept_size chip pages = sizes_of chip.sizes pages

-- the pages of a segment are no more than the flash
pub kept_within : (chip : ChipData) (pages : List Kept) → PagesOnce pages → AllKeptFit chip pages → kept_size chip pages ≤ flash_size chip
kept_within chip pages once fit = within chip.sizes pages once (are_below chip pages fit)
