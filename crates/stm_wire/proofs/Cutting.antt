-- The pages of a chip that lie inside so many bytes.
use Rattle.std.proofs.Common.{◌≡◌, ℕ, zero, ◌+◌, ◌-◌, ◌*◌, ◌<◌, ◌≤◌, ◌↔◌, suc, List, [], ◌∷◌}
use Rattle.std.proofs.Common.{length, get_or, take, drop, sum, sym, ap, subst, refl, ◌∙◌, arith, IsTrue}
use Rattle.std.proofs.Common.{inl, inr}
use Rattle.std.proofs.lemmas.Bool.{cases_lt}
use Rattle.std.proofs.lemmas.Bool.Decides.{nat_tests}
use Rattle.std.proofs.lemmas.List.{drop_more, drop_all, length-take}
use Rattle.std.proofs.lemmas.List.Elements.{All-take}
use Rattle.stm_wire.proofs.Names.{are_places, BoardPlaces, ChipData, cut_to, EndInside, first_pages, IsChip, IsPageSize, pages_within}
use Rattle.stm_wire.specs.lemmas.PageLaws.{offset_within, sum-cons}

more : (size : ℕ) (sizes : List ℕ) (bytes : ℕ) → size ≤ bytes
    → pages_within (size ∷ sizes) bytes ≡ suc (pages_within sizes (bytes - size))
unfolding pages_within
more size sizes bytes fits = grind (arith, nat_tests)

no_more : (size : ℕ) (sizes : List ℕ) (bytes : ℕ) → bytes < size
    → pages_within (size ∷ sizes) bytes ≡ 0
unfolding pages_within
no_more size sizes bytes larger = grind (arith, nat_tests)

-- one page more lies inside
pub within-more : (sizes : List ℕ) (i bytes : ℕ) → i < length sizes → get_or sizes i 0 ≤ bytes
    → pages_within (drop i sizes) bytes
    ≡ suc (pages_within (drop (i + 1) sizes) (bytes - get_or sizes i 0))
within-more sizes i bytes here fits =
    ap (λ rest. pages_within rest bytes) (drop_more sizes i 0 here)
    ∙ more (get_or sizes i 0) (drop (i + 1) sizes) bytes fits

-- the next page doesn't, nor does any behind it
pub within-no_more : (sizes : List ℕ) (i bytes : ℕ) → i < length sizes → bytes < get_or sizes i 0
    → pages_within (drop i sizes) bytes ≡ 0
within-no_more sizes i bytes here larger =
    ap (λ rest. pages_within rest bytes) (drop_more sizes i 0 here)
    ∙ no_more (get_or sizes i 0) (drop (i + 1) sizes) bytes larger

none_left : (bytes : ℕ) → pages_within [] bytes ≡ 0
unfolding pages_within
none_left bytes = refl

-- no page is left
pub within-end : (sizes : List ℕ) (i bytes : ℕ) → length sizes ≤ i
    → pages_within (drop i sizes) bytes ≡ 0
within-end sizes i bytes past =
    ap (λ rest. pages_within rest bytes) (drop_all i sizes past) ∙ none_left bytes

-- the first page of these, and the pages within
first_inside : (size : ℕ) (sizes : List ℕ) (bytes : ℕ)
    → (0 < pages_within (size ∷ sizes) bytes) ↔ (0 + size ≤ bytes)
first_inside size sizes bytes =
    elim (cases_lt bytes size) [
      | inl larger ↦
          (λ less. absurd (omega (arith, no_more size sizes bytes larger)), λ ends. absurd (omega arith))
      | inr fits ↦
          (λ less. omega arith, λ ends. omega (arith, more size sizes bytes (omega arith)))
    ]

-- a page behind the first, where it is known of the others
next_inside : (size : ℕ) (sizes : List ℕ) (m end bytes : ℕ)
    → ((m < pages_within sizes (bytes - size)) ↔ (end ≤ bytes - size))
    → (suc m < pages_within (size ∷ sizes) bytes) ↔ (size + end ≤ bytes)
next_inside size sizes m end bytes rest =
    elim (cases_lt bytes size) [
      | inl larger ↦
          (λ less. absurd (omega (arith, no_more size sizes bytes larger)), λ ends. absurd (omega arith))
      | inr fits ↦
          let cut = more size sizes bytes (omega arith) in (
            λ less.
                let ends = rest.0 (omega (arith, cut, less)) in
                omega arith,
            λ ends.
                let less = rest.1 (omega arith) in
                omega (arith, cut),
          )
    ]

-- the pages within are those that end inside
ends_inside : (sizes : List ℕ) (n bytes : ℕ) → n < length sizes
    → (n < pages_within sizes bytes) ↔ (sum (take n sizes) + get_or sizes n 0 ≤ bytes)
ends_inside [] n bytes here = absurd (omega arith)
ends_inside (size ∷ sizes) zero bytes here = first_inside size sizes bytes
ends_inside (size ∷ sizes) (suc m) bytes here =
    let P : ℕ → Type 0 = λ end. (suc m < pages_within (size ∷ sizes) bytes) ↔ (end ≤ bytes) in
    let rest = sum (take m sizes) + get_or sizes m 0 in
    let ends : size + rest ≡ sum (take (suc m) (size ∷ sizes)) + get_or (size ∷ sizes) (suc m) 0 =
    omega (arith, sum-cons size (take m sizes)) in
    subst P ends
    (next_inside size sizes m rest bytes (ends_inside sizes m (bytes - size) (omega arith)))

pub end_inside : (chip : ChipData) (bytes : ℕ) → EndInside chip bytes
end_inside chip bytes n here = ends_inside chip.sizes n bytes here

abbrev with_sizes : ChipData → List ℕ → ChipData
with_sizes chip sizes = record chip { sizes = sizes }

places_less : (chip : ChipData) (sizes : List ℕ) (places : BoardPlaces)
    → sum sizes ≤ sum chip.sizes → IsTrue (are_places chip places)
    → IsTrue (are_places (with_sizes chip sizes) places)
places_less chip sizes places le are = grind (arith, nat_tests)

-- the first pages of a chip are those of one
taken_chip : (chip : ChipData) (n : ℕ) → IsChip chip
    → IsChip (with_sizes chip (take (suc n) chip.sizes))
taken_chip chip n is =
    let count = length-take (suc n) chip.sizes in
    let less = offset_within chip.sizes (suc n) in
    record {
      id = is.id;
      first_page = omega (arith, count, is.first_page);
      last_page = omega (arith, count, is.last_page);
      sizes = All-take IsPageSize (suc n) chip.sizes is.sizes;
      size = omega (arith, less, is.size);
      above = is.above;
      aligned = is.aligned;
      end = omega (arith, less, is.end);
      erased = is.erased;
      places = places_less chip (take (suc n) chip.sizes) chip.places less is.places;
      unique = is.unique;
    }

some_first : (n : ℕ) (sizes : List ℕ) → first_pages (suc n) sizes ≡ take (suc n) sizes
some_first n sizes = grind (arith, nat_tests)

first_chip : (chip : ChipData) (n : ℕ) → IsChip chip
    → IsChip (with_sizes chip (first_pages n chip.sizes))
first_chip chip zero is = is
first_chip chip (suc n) is =
    subst (λ sizes. IsChip (with_sizes chip sizes)) (sym (some_first n chip.sizes))
    (taken_chip chip n is)

pub cut_chip : (chip : ChipData) (kib : ℕ) → IsChip chip → IsChip (cut_to kib chip)
cut_chip chip kib is = first_chip chip (pages_within chip.sizes (kib * 1024)) is
