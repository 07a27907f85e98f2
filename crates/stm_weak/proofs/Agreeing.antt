-- Flashes that agree outside weak pages, and bytes put in them.
use Rattle.std.proofs.Common.{append-nil, ◌≡◌, ◌⊎◌, ⊎_elim, inl, inr, ℕ, zero, suc, ◌+◌, ◌-◌, ◌<◌}
use Rattle.std.proofs.Common.{◌≤◌, Bool, List, [], ◌∷◌, ◌++◌, length, get_or, take, drop, refl, sym}
use Rattle.std.proofs.Common.{◌∙◌, ap, subst, arith, IsTrue, Contains}
use Rattle.std.proofs.lemmas.Bool.{cases_lt}
use Rattle.std.proofs.lemmas.List.{places, same_lists, get_or_default, take-append-drop}
use Rattle.std.proofs.lemmas.List.{get_or_past}
use Rattle.stm_wire.proofs.Names.{ChipData, erased_page, erased_pages, flash_size, page_count, page_offset, page_size, with_bytes, with_page}
use Rattle.stm_wire.specs.lemmas.PageLaws.{length-erased_page, length-with_page, fits_page}
use Rattle.stm_weak.specs.WeakDevice.{AgreesOutside, IsWeakAt}

pub agrees_same : (chip : ChipData) (weak : ℕ → Bool) (a : List ℕ) → AgreesOutside chip weak a a
agrees_same chip weak a = record { same_length = refl; elsewhere = λ place out. refl }

-- two that agree with a third
pub agrees_both : (chip : ChipData) (weak : ℕ → Bool) (a b c : List ℕ) → AgreesOutside chip weak a b
    → AgreesOutside chip weak a c → AgreesOutside chip weak b c
agrees_both chip weak a b c x y = record {
  same_length = y.same_length ∙ sym x.same_length;
  elsewhere = λ place out. y.elsewhere place out ∙ sym (x.elsewhere place out);
}

pub out_of_fewer : (chip : ChipData) (weak weak2 : ℕ → Bool)
    → ((n : ℕ) → IsTrue (weak n) → IsTrue (weak2 n)) → (place : ℕ) → (IsWeakAt chip weak2 place → ⊥)
    → IsWeakAt chip weak place → ⊥
out_of_fewer chip weak weak2 more place out w = out
    (record { page = w.page; is = more w.page w.is; from = w.from; to = w.to })

pub agrees_weaker : (chip : ChipData) (weak weak2 : ℕ → Bool) (a b : List ℕ)
    → ((n : ℕ) → IsTrue (weak n) → IsTrue (weak2 n)) → AgreesOutside chip weak a b
    → AgreesOutside chip weak2 a b
agrees_weaker chip weak weak2 a b more x = record {
  same_length = x.same_length;
  elsewhere = λ place out. x.elsewhere place (out_of_fewer chip weak weak2 more place out);
}

-- a page in which a place lies is one of the chip's
pub weak_exists : (chip : ChipData) (weak : ℕ → Bool) (place : ℕ) → (w : IsWeakAt chip weak place)
    → w.page < page_count chip
weak_exists chip weak place w = ⊎_elim (λ lt. lt) (λ past. absurd
    (let none = get_or_past chip.sizes w.page 0 past in omega (arith, none, w.from, w.to)))
    (cases_lt w.page (page_count chip))

-- where no page is weak they are one
pub agrees_none : (chip : ChipData) (weak : ℕ → Bool) (a b : List ℕ)
    → ((n : ℕ) → n < page_count chip → IsTrue (weak n) → ⊥) → AgreesOutside chip weak a b → b ≡ a
agrees_none chip weak a b none x =
    same_lists b a x.same_length (λ k d lt.
    let here : k < length a = omega (arith, lt, x.same_length) in
    get_or_default b k d 0 lt ∙ x.elsewhere k (λ w. none w.page (weak_exists chip weak k w) w.is)
    ∙ sym (get_or_default a k d 0 here))

-- a place of bytes that were put, and one beside them
pub put_place : (at : ℕ) (bytes flash : List ℕ) (place : ℕ) → at + length bytes ≤ length flash
    → at ≤ place → place < at + length bytes → get_or
    (with_bytes at bytes flash) place 0 ≡ get_or bytes (place - at) 0
put_place at bytes flash place fits from to = grind (arith, places)

pub put_beside : (at : ℕ) (bytes flash : List ℕ) (place : ℕ) → at + length bytes ≤ length flash
    → (place < at) ⊎ (at + length bytes ≤ place) → get_or
    (with_bytes at bytes flash) place 0 ≡ get_or flash place 0
put_beside at bytes flash place fits (inl before) = grind (arith, places)
put_beside at bytes flash place fits (inr behind) = grind (arith, places)

pub put_nothing : (at : ℕ) (flash : List ℕ) → with_bytes at [] flash ≡ flash
put_nothing at flash =
    let same : at + 0 ≡ at = omega arith in
    subst (λ (n : ℕ). (take at flash ++ []) ++ drop n flash ≡ flash) (sym same)
    (ap (λ (xs : List ℕ). xs ++ drop at flash) (append-nil (take at flash))
    ∙ take-append-drop at flash)

-- the place lies in page n
abbrev pub IsIn : ChipData → ℕ → ℕ → Type 0
IsIn chip n place = (page_offset chip n ≤ place) × (place < page_offset chip n + page_size chip n)

pub cases_in : (chip : ChipData) (n place : ℕ) → IsIn chip n place
    ⊎ ((place < page_offset chip n) ⊎ (page_offset chip n + page_size chip n ≤ place))
cases_in chip n place = ⊎_elim (λ before. inr (inl before))
    (λ from. ⊎_elim (λ to. inl (from, to)) (λ behind. inr (inr behind))
    (cases_lt place (page_offset chip n + page_size chip n))) (cases_lt place (page_offset chip n))

not_beside : (chip : ChipData) (n place : ℕ) → (place < page_offset chip n)
    ⊎ (page_offset chip n + page_size chip n ≤ place) → IsIn chip n place → ⊥
not_beside chip n place (inl before) (from, to) = omega (arith, before, from)
not_beside chip n place (inr behind) (from, to) = omega (arith, behind, to)

-- the place lies in one of these pages
abbrev pub IsInOne : ChipData → List ℕ → ℕ → Type 0
IsInOne chip pages place = (n : ℕ) × Contains pages n × IsIn chip n place

contains_more : (m : ℕ) (pages : List ℕ) (n : ℕ) → Contains pages n → Contains (m ∷ pages) n
contains_more m pages n (k, lt, e) = (suc k, omega (arith, lt), e)

one_of : (chip : ChipData) (m : ℕ) (pages : List ℕ) (place : ℕ) → IsInOne chip (m ∷ pages) place
    → IsIn chip m place ⊎ IsInOne chip pages place
one_of chip m pages place (n, (zero, lt, e), here) = let P : ℕ → Type 0 = λ x. IsIn chip x place
    in inl (subst P (sym e) here)
one_of chip m pages place (n, (suc k, lt, e), here) = inr (n, (k, omega (arith, lt), e), here)

pub cases_in_one : (chip : ChipData) (pages : List ℕ) (place : ℕ) → IsInOne chip pages place
    ⊎ (IsInOne chip pages place → ⊥)
cases_in_one chip [] place = inr (λ (n, (k, lt, e), here). omega (arith, lt))
cases_in_one chip (m ∷ pages) place = by (cases_in chip m place) (cases_in_one chip pages place)
  where
    by : IsIn chip m place ⊎ ((place < page_offset chip m)
        ⊎ (page_offset chip m + page_size chip m ≤ place)) → IsInOne chip pages place
        ⊎ (IsInOne chip pages place → ⊥) → IsInOne chip (m ∷ pages) place
        ⊎ (IsInOne chip (m ∷ pages) place → ⊥)
    by (inl here) rest = inl (m, (0, omega arith, refl), here)
    by (inr beside) (inl (n, c, here)) = inl (n, contains_more m pages n c, here)
    by (inr beside) (inr none) = inr (λ one. ⊎_elim (not_beside chip m place beside) none
        (one_of chip m pages place one))

-- A place that two flashes have alike they have alike once pages are erased, and so each place in
-- one of these.
pub erased_alike : (chip : ChipData) (pages a b : List ℕ) (place : ℕ) → length a ≡ flash_size chip
    → length b ≡ flash_size chip → (get_or b place 0 ≡ get_or a place 0) ⊎ IsInOne chip pages place
    → get_or (erased_pages chip pages b) place 0 ≡ get_or (erased_pages chip pages a) place 0
erased_alike chip [] a b place x y (inl same) = same
erased_alike chip [] a b place x y (inr (n, (k, lt, e), here)) = absurd (omega (arith, lt))
erased_alike chip (m ∷ pages) a b place x y h =
    erased_alike chip pages (with_page chip m page a) (with_page chip m page b) place
    (length-with_page chip a page m x whole) (length-with_page chip b page m y whole)
    (by (cases_in chip m place) h)
  where
    page : List ℕ
    page = erased_page chip m

    whole : length page ≡ page_size chip m
    whole = length-erased_page chip m

    fits_a : page_offset chip m + length page ≤ length a
    fits_a = fits_page chip a page m x whole

    fits_b : page_offset chip m + length page ≤ length b
    fits_b = fits_page chip b page m y whole

    beside_same : (place < page_offset chip m) ⊎ (page_offset chip m + page_size chip m ≤ place)
        → (place < page_offset chip m) ⊎ (page_offset chip m + length page ≤ place)
    beside_same (inl before) = inl before
    beside_same (inr behind) = inr (omega (arith, behind, whole))

    by : IsIn chip m place ⊎ ((place < page_offset chip m)
        ⊎ (page_offset chip m + page_size chip m ≤ place)) → (get_or b place 0 ≡ get_or a place 0)
        ⊎ IsInOne chip (m ∷ pages) place
        → (get_or (with_page chip m page b) place 0 ≡ get_or (with_page chip m page a) place 0)
        ⊎ IsInOne chip pages place
    by (inl (from, to)) g =
        let here : place < page_offset chip m + length page = omega (arith, to, whole) in
        inl (put_place (page_offset chip m) page b place fits_b from here
        ∙ sym (put_place (page_offset chip m) page a place fits_a from here))
    by (inr beside) (inl same) =
        let out = beside_same beside in
        inl (put_beside (page_offset chip m) page b place fits_b out ∙ same
        ∙ sym (put_beside (page_offset chip m) page a place fits_a out))
    by (inr beside) (inr one) = ⊎_elim (λ here. absurd (not_beside chip m place beside here))
        (λ rest. inr rest) (one_of chip m pages place one)
