-- A page that a segment keeps is one of its lines.
use Rattle.std.proofs.Common.{◌≡◌, ℕ, suc, ◌+◌, length, arith, Bool, true, false, ◌==◌, if◌then◌else◌, List, [], ◌∷◌, Option, Some, None, option_map, refl, sym, ◌∙◌, ap}
use Rattle.std.specs.Prelude.{option_and_then, slice_get, IfSome, reverse, sum_by}
use Rattle.std.proofs.lemmas.List.Sums.{sum_by-cons, sum_by_push}
use Rattle.std.proofs.lemmas.Grind.{reverse_onto}
use Rattle.std.specs.List.{find}
use Rattle.stm_journal.proofs.Names.{IsPlaceIn, Kept, page_place, PagePlace, place_of, segment_of, SegmentData, StateData}

abbrev StandsAt : List Kept → Option Kept → Type 0
StandsAt pages None = Unit {0}
StandsAt pages (Some kept) = (i : ℕ) × (slice_get pages i ≡ Some kept)

found : (n : ℕ) (pages : List Kept) → StandsAt pages (find (λ kept. kept.page == n) pages)
found n [] = tt
found n (x ∷ pages) = at (x.page == n) (find (λ kept. kept.page == n) pages) (found n pages)
  where
    at : (b : Bool) (o : Option Kept) → StandsAt pages o → StandsAt (x ∷ pages) (if b then Some x else o)
    at true o rest = (0, refl)
    at false None rest = tt
    at false (Some kept) rest = (suc rest.0, rest.1)

pub page-is-kept : (s : StateData) (k n : ℕ) (o : Option PagePlace) → o ≡ page_place s k n → IfSome o (IsPlaceIn s)
page-is-kept s k n o is = at (segment_of s k) refl
  where
    placed : (segment : SegmentData) (x : Option Kept) (o : Option PagePlace) → segment_of s k ≡ Some segment → StandsAt segment.pages x → o ≡ option_map place_of x → IfSome o (IsPlaceIn s)
    placed segment None None here stands e = tt
    placed segment None (Some place) here stands e = absurd (clash e)
      where
        clash : Some place ≡ None → ⊥
        clash h = cc
    placed segment (Some kept) None here stands e = tt
    placed segment (Some kept) (Some place) here stands e =
        (k, stands.0, ap (λ (x : Option SegmentData). option_map place_of (option_and_then (λ y. slice_get y.pages stands.0) x)) here ∙ ap (λ (x : Option Kept). option_map place_of x) stands.1 ∙ sym e)

    at : (x : Option SegmentData) → segment_of s k ≡ x → IfSome o (IsPlaceIn s)
    at None e = placed-none o (is ∙ ap (λ (y : Option SegmentData). option_map place_of (option_and_then (λ segment. find (λ kept. kept.page == n) segment.pages) y)) e)
      where
        placed-none : (o : Option PagePlace) → o ≡ None → IfSome o (IsPlaceIn s)
        placed-none None h = tt
        placed-none (Some place) h = absurd (clash h)
          where
            clash : Some place ≡ None → ⊥
            clash h = cc
    at (Some segment) e =
        placed segment (find (λ kept. kept.page == n) segment.pages) o e (found n segment.pages)
        (is ∙ ap (λ (y : Option SegmentData). option_map place_of (option_and_then (λ segment. find (λ kept. kept.page == n) segment.pages) y)) e)

sum-reverse : (xs : List SegmentData) → sum_by (λ segment. length segment.pages) (reverse xs) ≡ sum_by (λ segment. length segment.pages) xs
sum-reverse [] = refl
sum-reverse (x ∷ xs) =
    ap (λ (ys : List SegmentData). sum_by (λ segment. length segment.pages) ys) (reverse_onto xs x [])
    ∙ sum_by_push (λ segment. length segment.pages) (reverse xs) x ∙ ap (λ (n : ℕ). n + length x.pages) (sum-reverse xs)
    ∙ add-comm (sum_by (λ segment. length segment.pages) xs) (length x.pages) ∙ sym (sum_by-cons (λ segment. length segment.pages) x xs)
  where
    add-comm : (a b : ℕ) → a + b ≡ b + a
    add-comm a b = omega arith

-- how many pages the newest segment keeps, and those below it
pub entries-stack : (newest : SegmentData) (below : List SegmentData)
    → length newest.pages + sum_by (λ segment. length segment.pages) below ≡ sum_by (λ segment. length segment.pages) (newest ∷ reverse below)
entries-stack newest below =
    ap (λ (n : ℕ). length newest.pages + n) (sym (sum-reverse below)) ∙ sym (sum_by-cons (λ segment. length segment.pages) newest (reverse below))
