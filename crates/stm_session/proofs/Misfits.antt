-- The pages that a journal keeps, against a chip.
use Rattle.std.proofs.Common.{◌≡◌, ℕ, zero, suc, ◌+◌, ◌-◌, ◌<◌, ◌≤◌, Bool, true, false, not, cond, ◌&&◌, ◌||◌, ◌==◌, nat_lt, nat_le, if◌then◌else◌, List, [], ◌∷◌, length, drop, slice_get, Option, Some, None, option_map, option_and_then, inl, inr, refl, sym, ◌∙◌, ap, subst, arith}
use Rattle.std.specs.Prelude.{is_none}
use Rattle.std.specs.List.{find, list_any}
use Rattle.std.specs.Option.{option_map_or}
use Rattle.std.proofs.lemmas.Bool.{cases_Bool, true≢false}
use Rattle.std.proofs.lemmas.Bool.Decides.{nat_tests}
use Rattle.std.proofs.lemmas.List.{drop_more, get_or-take, length-take, take_all}
use Rattle.std.proofs.lemmas.List.Sums.{fold-append}
use Rattle.std.proofs.lemmas.Option.{slice_get_within, get_or_from_slice_get, slice_get_cases}
use Rattle.std.proofs.Math.ListN.{drop_of_length-le}
use Rattle.stm_wire.proofs.Names.{ChipData, page_count, page_size}
use Rattle.stm_journal.specs.declared.kept.Kept.{Kept}
use Rattle.stm_journal.specs.declared.kept.PagePlace.{PagePlace}
use Rattle.stm_journal.proofs.Names.{AllOnce, IsSound, kept_at, LacksPage, page_place, PagesOnce, place_of, segment_of, SegmentData, StateData}
use Rattle.stm_session.proofs.Names.{first_of, fits_among, fits_as_kept, lacks_companion, least_with, lesser, misfit_lines, misfit_lines_of, pages_kept, segment_pages}

-- a page among the first has the size that it has among all
pub first_size : (most : ℕ) (chip : ChipData) (n : ℕ) → n < page_count (first_of most chip) → page_size (first_of most chip) n ≡ page_size chip n
first_size most chip n within = get_or-take most chip.sizes n 0 (omega (arith, within, length-take most chip.sizes))

-- and where they are all, the chip is itself
pub first_all : (most : ℕ) (chip : ChipData) → page_count chip ≤ most → first_of most chip ≡ chip
first_all most chip all = ap (λ (sizes : List ℕ). record chip { sizes = sizes }) (take_all most chip.sizes all)

-- the number and the line of a kept page
abbrev told : Kept → ℕ × ℕ
told kept = (kept.page, kept.line)

-- what the readers of a segment tell is told of its pages
kept-in : (o : Option SegmentData) (i : ℕ) → option_map told (option_and_then (λ segment. slice_get segment.pages i) o) ≡ option_map told (slice_get (pages_kept o) i)
kept-in None i = refl
kept-in (Some segment) i = refl

place-in : (o : Option SegmentData) (n : ℕ)
    → option_map place_of (option_and_then (λ segment. find (λ kept. kept.page == n) segment.pages) o) ≡ option_map place_of (find (λ kept. kept.page == n) (pages_kept o))
place-in None n = refl
place-in (Some segment) n = refl

abbrev IsOfPage : ℕ → Option Kept → Type 0
IsOfPage n None = Unit {0}
IsOfPage n (Some kept) = kept.page ≡ n

same-tested : (a b : ℕ) → (a == b) ≡ true → a ≡ b
same-tested a b h = grind (arith, nat_tests)

found-page : (n : ℕ) (pages : List Kept) → IsOfPage n (find (λ kept. kept.page == n) pages)
found-page n [] = tt
found-page n (kept ∷ pages) = elim (cases_Bool (kept.page == n)) [
  | inl here ↦ rw here (same-tested kept.page n here)
  | inr other ↦ rw other (found-page n pages)
]

-- a page beyond the chip's
beyond-found : (chip : ChipData) (among : List Kept) (n : ℕ) (o : Option Kept) → IsOfPage n o → page_count chip ≤ n → option_map_or (fits_among chip among) o false ≡ false
beyond-found chip among n None is h = refl
beyond-found chip among n (Some kept) is h = let beyond : nat_lt kept.page (page_count chip) ≡ false = grind (arith, nat_tests) in rw beyond

pub fits-beyond : (chip : ChipData) (pages : List Kept) (n : ℕ) → page_count chip ≤ n → fits_as_kept chip pages n ≡ false
fits-beyond chip pages n h = beyond-found chip pages n (find (λ kept. kept.page == n) pages) (found-page n pages) h

-- a page of the chip that is kept
same-place : (p q : PagePlace) → Some p ≡ Some q → p ≡ q
same-place p q e = cc

found-place : (chip : ChipData) (among : List Kept) (n : ℕ) (place : PagePlace) (o : Option Kept) → IsOfPage n o → n < page_count chip → Some place ≡ option_map place_of o
    → option_map_or (fits_among chip among) o false ≡ ((place.length == page_size chip n) && not (lacks_companion chip among n))
found-place chip among n place None is h e = absurd (cc)
found-place chip among n place (Some kept) is h e =
    let within : nat_lt kept.page (page_count chip) ≡ true = grind (arith, nat_tests) in
    let same : length kept.bytes ≡ place.length = sym (ap (λ (p : PagePlace). p.length) (same-place place (place_of kept) e)) in
    rw (within, same, is)

pub fits-place : (chip : ChipData) (s : StateData) (k n : ℕ) (place : PagePlace) → n < page_count chip → Some place ≡ page_place s k n
    → fits_as_kept chip (segment_pages s k) n ≡ ((place.length == page_size chip n) && not (lacks_companion chip (segment_pages s k) n))
fits-place chip s k n place h e =
    found-place chip (segment_pages s k) n place (find (λ kept. kept.page == n) (segment_pages s k)) (found-page n (segment_pages s k)) h (e ∙ place-in (segment_of s k) n)

-- a page that isn't kept
found-none : (chip : ChipData) (among : List Kept) (o : Option Kept) → None ≡ option_map place_of o → option_map_or (fits_among chip among) o false ≡ false
found-none chip among None e = refl
found-none chip among (Some kept) e = absurd (cc)

pub fits-none : (chip : ChipData) (s : StateData) (k n : ℕ) → None ≡ page_place s k n → fits_as_kept chip (segment_pages s k) n ≡ false
fits-none chip s k n e = found-none chip (segment_pages s k) (find (λ kept. kept.page == n) (segment_pages s k)) (e ∙ place-in (segment_of s k) n)

-- the companion isn't kept exactly where none of the pages is it
companion-found : (n : ℕ) (pages : List Kept) → is_none (option_map place_of (find (λ kept. kept.page == n) pages)) ≡ not (list_any (λ kept. kept.page == n) pages)
companion-found n [] = refl
companion-found n (kept ∷ pages) = elim (cases_Bool (kept.page == n)) [
  | inl here ↦ rw here
  | inr other ↦ rw other (companion-found n pages)
]

pub companion-kept : (s : StateData) (k n : ℕ) → is_none (page_place s k n) ≡ not (list_any (λ kept. kept.page == n) (segment_pages s k))
companion-kept s k n = ap (λ o. is_none o) (place-in (segment_of s k) n) ∙ companion-found n (segment_pages s k)

-- a page that is kept once is found by its number
or-first : (a b : Bool) → (a || b) ≡ false → a ≡ false
or-first true b h = h
or-first false b h = refl

or-second : (a b : Bool) → (a || b) ≡ false → b ≡ false
or-second true b h = absurd (true≢false h)
or-second false b h = h

lacks-at : (n : ℕ) (pages : List Kept) (i : ℕ) (kept : Kept) → LacksPage n pages → slice_get pages i ≡ Some kept → (kept.page == n) ≡ false
lacks-at n [] i kept lacks at = absurd (cc)
lacks-at n (x ∷ pages) zero kept lacks at =
    let same : x ≡ kept = cc in
    subst (λ (y : Kept). (y.page == n) ≡ false) same (or-first (x.page == n) (list_any (λ y. y.page == n) pages) lacks)
lacks-at n (x ∷ pages) (suc i) kept lacks at = lacks-at n pages i kept (or-second (x.page == n) (list_any (λ y. y.page == n) pages) lacks) at

same-either : (a b : ℕ) → (a == b) ≡ false → (b == a) ≡ false
same-either a b h = grind (arith, nat_tests)

same-itself : (a : ℕ) → (a == a) ≡ true
same-itself a = grind (arith, nat_tests)

once-found : (pages : List Kept) (i : ℕ) (kept : Kept) → PagesOnce pages → slice_get pages i ≡ Some kept → find (λ y. y.page == kept.page) pages ≡ Some kept
once-found [] i kept once at = absurd (cc)
once-found (x ∷ pages) zero kept once at =
    let same : x ≡ kept = cc in
    subst (λ (y : Kept). find (λ z. z.page == y.page) (x ∷ pages) ≡ Some y) same (rw (same-itself x.page))
once-found (x ∷ pages) (suc i) kept once at =
    let other : (x.page == kept.page) ≡ false = same-either kept.page x.page (lacks-at x.page pages i kept once.0 at) in
    rw other (once-found pages i kept once.1 at)

-- each segment of a sound journal keeps a page once
once-at : (stack : List SegmentData) (j : ℕ) → AllOnce stack → PagesOnce (pages_kept (slice_get stack j))
once-at [] j once = tt
once-at (segment ∷ below) zero once = once.0
once-at (segment ∷ below) (suc j) once = once-at below j once.1

once-if : (b : Bool) (o : Option SegmentData) → PagesOnce (pages_kept o) → PagesOnce (pages_kept (if b then o else None))
once-if true o once = once
once-if false o once = tt

pub sound-pages : (s : StateData) (k : ℕ) → IsSound s → PagesOnce (segment_pages s k)
sound-pages s k sound =
    once-if (nat_le 1 k && nat_le k (length s.stack)) (slice_get s.stack (length s.stack - k)) (once-at s.stack (length s.stack - k) sound.once)

-- a segment keeps no more pages than there are numbers of 16 bits
abbrev pub below : ℕ → List Kept → ℕ
below n [] = 0
below n (kept ∷ pages) = cond (nat_lt kept.page n) 1 0 + below n pages

abbrev numbered : ℕ → List Kept → ℕ
numbered n [] = 0
numbered n (kept ∷ pages) = cond (kept.page == n) 1 0 + numbered n pages

lacks-more : (b rest : Bool) (m : ℕ) → (b || rest) ≡ false → (rest ≡ false → m ≡ 0) → cond b 1 0 + m ≡ 0
lacks-more true rest m lacks none = absurd (true≢false lacks)
lacks-more false rest m lacks none = omega (arith, none lacks)

numbered-lacks : (n : ℕ) (pages : List Kept) → LacksPage n pages → numbered n pages ≡ 0
numbered-lacks n [] lacks = refl
numbered-lacks n (kept ∷ pages) lacks =
    lacks-more (kept.page == n) (list_any (λ y. y.page == n) pages) (numbered n pages) lacks (numbered-lacks n pages)

once-more : (b : Bool) (m : ℕ) → (b ≡ true → m ≡ 0) → m ≤ 1 → cond b 1 0 + m ≤ 1
once-more true m none h = omega (arith, none refl)
once-more false m none h = omega arith

numbered-once : (n : ℕ) (pages : List Kept) → PagesOnce pages → numbered n pages ≤ 1
numbered-once n [] once = omega arith
numbered-once n (kept ∷ pages) once =
    let P : ℕ → Type 0 = λ m. LacksPage m pages in
    once-more (kept.page == n) (numbered n pages) (λ here. numbered-lacks n pages (subst P (same-tested kept.page n here) once.0)) (numbered-once n pages once.1)

below-one : (p n : ℕ) → cond (nat_lt p (suc n)) 1 0 ≡ cond (nat_lt p n) 1 0 + cond (p == n) 1 0
below-one p n = grind (arith, nat_tests)

below-more : (n : ℕ) (pages : List Kept) → below (suc n) pages ≡ below n pages + numbered n pages
below-more n [] = refl
below-more n (kept ∷ pages) = omega (arith, below-one kept.page n, below-more n pages)

none-below : (p : ℕ) → ◌≡◌ {A = ℕ} (cond (nat_lt p 0) 1 0) 0
none-below p = grind (arith, nat_tests)

below-none : (pages : List Kept) → below 0 pages ≡ 0
below-none [] = refl
below-none (kept ∷ pages) = omega (arith, none-below kept.page, below-none pages)

pub below-limit : (n : ℕ) (pages : List Kept) → PagesOnce pages → below n pages ≤ n
below-limit zero pages once = omega (arith, below-none pages)
below-limit (suc n) pages once = omega (arith, below-more n pages, numbered-once n pages once, below-limit n pages once)

drop-at : {X : Type 0} (xs : List X) (i : ℕ) (x : X) → slice_get xs i ≡ Some x → drop i xs ≡ x ∷ drop (i + 1) xs
drop-at xs i x at =
    let first = get_or_from_slice_get xs i x x at in
    drop_more xs i x (slice_get_within xs i x at) ∙ ap (λ y. y ∷ drop (i + 1) xs) first

told-some : (o : Option Kept) (n line : ℕ) → Some (n, line) ≡ option_map told o → (kept : Kept) × (o ≡ Some kept) × (kept.page ≡ n) × (kept.line ≡ line)
told-some None n line e = absurd (cc)
told-some (Some kept) n line e = let same : told kept ≡ (n, line) = cc in (kept, refl, ap (λ t. t.0) same, ap (λ t. t.1) same)

told-none : (o : Option Kept) → None ≡ option_map told o → o ≡ None
told-none None e = refl
told-none (Some kept) e = absurd (cc)

-- one page line more is looked at
misfit-one : (chip : ChipData) (among : List Kept) (kept : Kept) (rest : List Kept) (so_far : Option ℕ) (b : Bool) → b ≡ fits_among chip among kept
    → least_with so_far (misfit_lines_of chip among (kept ∷ rest)) ≡ least_with (if b then so_far else Some (lesser so_far kept.line)) (misfit_lines_of chip among rest)
misfit-one chip among kept rest so_far true is = rw (sym is)
misfit-one chip among kept rest so_far false is = rw (sym is)

pub misfit-step : (chip : ChipData) (s : StateData) (k i n line : ℕ) (so_far : Option ℕ) (b : Bool) → IsSound s → Some (n, line) ≡ kept_at s k i → b ≡ fits_as_kept chip (segment_pages s k) n
    → least_with so_far (misfit_lines_of chip (segment_pages s k) (drop i (segment_pages s k)))
    ≡ least_with (if b then so_far else Some (lesser so_far line)) (misfit_lines_of chip (segment_pages s k) (drop (i + 1) (segment_pages s k)))
misfit-step chip s k i n line so_far b sound e is =
    let pages : List Kept = segment_pages s k in
    let t : (kept : Kept) × (slice_get pages i ≡ Some kept) × (kept.page ≡ n) × (kept.line ≡ line) = told-some (slice_get pages i) n line (e ∙ kept-in (segment_of s k) i) in
    let kept : Kept = t.0 in
    let found : fits_as_kept chip pages kept.page ≡ fits_among chip pages kept = ap (λ o. option_map_or (fits_among chip pages) o false) (once-found pages i kept (sound-pages s k sound) t.1) in
    let fits : b ≡ fits_among chip pages kept = is ∙ ap (λ m. fits_as_kept chip pages m) (sym t.2) ∙ found in
    ap (λ rest. least_with so_far (misfit_lines_of chip pages rest)) (drop-at pages i kept t.1)
    ∙ misfit-one chip pages kept (drop (i + 1) pages) so_far b fits
    ∙ ap (λ m. least_with (if b then so_far else Some (lesser so_far m)) (misfit_lines_of chip pages (drop (i + 1) pages))) t.3

pub misfit-end : (chip : ChipData) (s : StateData) (k i : ℕ) (so_far : Option ℕ) → None ≡ kept_at s k i
    → least_with so_far (misfit_lines_of chip (segment_pages s k) (drop i (segment_pages s k))) ≡ so_far
misfit-end chip s k i so_far e = elim (slice_get_cases (segment_pages s k) i).1 [
  | inl some ↦ absurd (let none = told-none (slice_get (segment_pages s k) i) (e ∙ kept-in (segment_of s k) i) in cc (none, some.2))
  | inr past ↦ ap (λ rest. least_with so_far (misfit_lines_of chip (segment_pages s k) rest)) (drop_of_length-le (segment_pages s k) past.0)
]

-- the i-th page line has one of the numbers that are left
pub below-step : (s : StateData) (k i n line : ℕ) → n < 65536 → Some (n, line) ≡ kept_at s k i → below 65536 (drop i (segment_pages s k)) ≡ 1 + below 65536 (drop (i + 1) (segment_pages s k))
below-step s k i n line h e =
    let pages : List Kept = segment_pages s k in
    let t : (kept : Kept) × (slice_get pages i ≡ Some kept) × (kept.page ≡ n) × (kept.line ≡ line) = told-some (slice_get pages i) n line (e ∙ kept-in (segment_of s k) i) in
    let kept : Kept = t.0 in
    let page : kept.page ≡ n = t.2 in
    let short : nat_lt kept.page 65536 ≡ true = grind (arith, nat_tests) in
    ap (below 65536) (drop-at pages i kept t.1) ∙ ap (λ b. cond b 1 0 + below 65536 (drop (i + 1) pages)) short

pub kept-within : (s : StateData) (k i n line : ℕ) → Some (n, line) ≡ kept_at s k i → i < length (segment_pages s k)
kept-within s k i n line e =
    let t = told-some (slice_get (segment_pages s k) i) n line (e ∙ kept-in (segment_of s k) i) in
    slice_get_within (segment_pages s k) i t.0 t.1

-- one segment more is looked at, from the newest
segment-tested : (stack : List SegmentData) (newer : ℕ) → newer < length stack → (nat_le 1 (length stack - newer) && nat_le (length stack - newer) (length stack)) ≡ true
segment-tested stack newer h = grind (arith, nat_tests)

pub newer-segment : (s : StateData) (newer : ℕ) → newer < length s.stack → segment_of s (length s.stack - newer) ≡ slice_get s.stack newer
newer-segment s newer h =
    let place : length s.stack - (length s.stack - newer) ≡ newer = omega arith in
    ap (λ b. if b then slice_get s.stack (length s.stack - (length s.stack - newer)) else None) (segment-tested s.stack newer h) ∙ ap (slice_get s.stack) place

pub stack-step : (chip : ChipData) (s : StateData) (newer : ℕ) (so_far : Option ℕ) → newer < length s.stack
    → least_with so_far (misfit_lines chip (drop newer s.stack))
    ≡ least_with (least_with so_far (misfit_lines_of chip (segment_pages s (length s.stack - newer)) (segment_pages s (length s.stack - newer)))) (misfit_lines chip (drop (newer + 1) s.stack))
stack-step chip s newer so_far h = elim (slice_get_cases s.stack newer).1 [
  | inl some ↦
      let segment : SegmentData = some.0 in
      let rest : List ℕ = misfit_lines chip (drop (newer + 1) s.stack) in
      let pages : segment_pages s (length s.stack - newer) ≡ segment.pages = ap pages_kept (newer-segment s newer h ∙ some.2) in
      ap (λ stack. least_with so_far (misfit_lines chip stack)) (drop-at s.stack newer segment some.2)
      ∙ fold-append (λ least line. Some (lesser least line)) so_far (misfit_lines_of chip segment.pages segment.pages) rest
      ∙ ap (λ kept. least_with (least_with so_far (misfit_lines_of chip kept kept)) rest) (sym pages)
  | inr past ↦ absurd (let within : length s.stack ≤ newer = past.0 in omega arith)
]
