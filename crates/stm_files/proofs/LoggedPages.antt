-- The pages of a segment, as the readers of a journal tell them one by one.
use Rattle.std.proofs.Common.{◌≡◌, ℕ, ◌+◌, ◌<◌, ◌≤◌, ◌++◌, ◌∷◌, [], ◌==◌, List, length, drop, slice_get, if◌then◌else◌, Bool, true, false, Option, Some, None, option_map, option_and_then, inl, inr, refl, sym, ◌∙◌, ap, arith, append_assoc}
use Rattle.std.specs.List.{flat_map, range_with_len}
use Rattle.std.specs.Option.{option_map_or}
use Rattle.std.proofs.lemmas.List.{drop_more, flat_map_more, map-id}
use Rattle.std.proofs.lemmas.List.FromFn.{map-range_with_len_more}
use Rattle.std.proofs.lemmas.Option.{slice_get_within, get_or_from_slice_get, slice_get_cases, slice_get-map}
use Rattle.stm_journal.specs.declared.kept.Kept.{Kept}
use Rattle.stm_journal.proofs.Names.{kept_at, kept_count, segment_of, SegmentData, StateData}
use Rattle.stm_files.specs.Logging.{numbers_of, logged_pages, range_text}

-- the number and the line of a kept page
abbrev told : Kept → ℕ × ℕ
told kept = (kept.page, kept.line)

told-some : (o : Option Kept) (n line : ℕ) → Some (n, line) ≡ option_map told o → option_map (λ kept. kept.page) o ≡ Some n
told-some None n line e = absurd (cc)
told-some (Some kept) n line e = let same : told kept ≡ (n, line) = cc in ap (λ t. Some (t.0)) same

told-none : (o : Option Kept) → None ≡ option_map told o → o ≡ None
told-none None e = refl
told-none (Some kept) e = absurd (cc)

-- what is told of the segment's i-th page
told-of : (o : Option SegmentData) (segment : SegmentData) (i : ℕ) → o ≡ Some segment
    → option_map told (option_and_then (λ s. slice_get s.pages i) o) ≡ option_map told (slice_get segment.pages i)
told-of o segment i is = ap (λ s. option_map told (option_and_then (λ (s : SegmentData). slice_get s.pages i) s)) is

pub number-at : (s : StateData) (k : ℕ) (segment : SegmentData) (i n line : ℕ) → segment_of s k ≡ Some segment → Some (n, line) ≡ kept_at s k i
    → drop i (numbers_of segment) ≡ n ∷ drop (i + 1) (numbers_of segment)
number-at s k segment i n line is e =
    let numbers : List ℕ = numbers_of segment in
    let at : slice_get numbers i ≡ Some n =
    slice_get-map (λ kept. kept.page) segment.pages i ∙ told-some (slice_get segment.pages i) n line (e ∙ told-of (segment_of s k) segment i is) in
    drop_more numbers i n (slice_get_within numbers i n at) ∙ ap (λ m. m ∷ drop (i + 1) numbers) (get_or_from_slice_get numbers i n n at)

counted-in : (o : Option SegmentData) (i : ℕ) → None ≡ option_map told (option_and_then (λ s. slice_get s.pages i) o)
    → i < option_map_or (λ (segment : SegmentData). length segment.pages) o 0 → ⊥
counted-in None i e lt = omega (arith, lt)
counted-in (Some segment) i e lt = elim (slice_get_cases segment.pages i).1 [
  | inl some ↦ let none = told-none (slice_get segment.pages i) e in let there = some.2 in cc (none, there)
  | inr past ↦ let le : length segment.pages ≤ i = past.0 in omega (arith, lt, le)
]

-- where a page is counted, it is told
pub counted : (s : StateData) (k i : ℕ) → None ≡ kept_at s k i → i < kept_count s k → ⊥
counted s k i e lt = counted-in (segment_of s k) i e lt

-- a page more: it goes on a range, or ends one
pub step : (first last n : ℕ) (pages rest out : List ℕ) (b : Bool) → pages ≡ n ∷ rest → b ≡ (n == last + 1)
    → (if b then out ++ logged_pages first n rest else (out ++ range_text first last) ++ logged_pages n n rest) ≡ out ++ logged_pages first last pages
step first last n pages rest out true is e = ap (λ c. out ++ (if c then logged_pages first n rest else range_text first last ++ logged_pages n n rest)) e ∙ ap (λ ps. out ++ logged_pages first last ps) (sym is)
step first last n pages rest out false is e =
    append_assoc out (range_text first last) (logged_pages n n rest)
    ∙ ap (λ c. out ++ (if c then logged_pages first n rest else range_text first last ++ logged_pages n n rest)) e ∙ ap (λ ps. out ++ logged_pages first last ps) (sym is)

-- one number more
pub range-more : (a n : ℕ) → range_with_len a (n + 1) ≡ range_with_len a n ++ (a + n) ∷ []
range-more a n = sym (map-id (range_with_len a (n + 1))) ∙ map-range_with_len_more (λ m. m) a n (a + n) refl ∙ ap (λ ns. ns ++ (a + n) ∷ []) (map-id (range_with_len a n))

-- a segment's line more
pub line-more : (f : ℕ → List ℕ) (head : List ℕ) (n : ℕ) → (head ++ flat_map f (range_with_len 1 n)) ++ f (n + 1) ≡ head ++ flat_map f (range_with_len 1 (n + 1))
line-more f head n =
    flat_map_more f head (range_with_len 1 n) (n + 1) ∙ ap (λ ns. head ++ flat_map f ns) (let one : 1 + n ≡ n + 1 = omega arith in ap (λ m. range_with_len 1 n ++ m ∷ []) (sym one) ∙ sym (range-more 1 n))
