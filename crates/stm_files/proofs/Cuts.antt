-- Segments whose pages, and journals whose segments, were compared one by one are alike.
use Rattle.std.proofs.Common.{◌≡◌, ℕ, zero, suc, ◌+◌, ◌-◌, ◌<◌, ◌≤◌, ◌∷◌, [], ◌&&◌, nat_le, if◌then◌else◌, List, length, take, map, slice_get, Option, Some, None, option_map, option_and_then, true, refl, sym, ◌∙◌, ap, ap₂, arith}
use Rattle.std.specs.Option.{option_map_or}
use Rattle.std.proofs.lemmas.Bool.Decides.{nat_tests}
use Rattle.std.proofs.lemmas.List.{length-map, length-take-le}
use Rattle.std.proofs.lemmas.Option.{slice_get-map}
use Rattle.stm_journal.specs.declared.kept.Kept.{Kept}
use Rattle.stm_journal.specs.declared.stage.Stage.{Stage}
use Rattle.stm_journal.proofs.Names.{depth, segment_of, SegmentData, StateData}
use Rattle.stm_files.specs.Cutting.{outline, page_outline}

-- lists of one length whose elements are the same, one by one
pub same-at : {B : Type 0} (xs ys : List B) → length xs ≡ length ys → ((i : ℕ) → i < length xs → slice_get xs i ≡ slice_get ys i) → xs ≡ ys
same-at [] [] e at = refl
same-at (x ∷ xs) (y ∷ ys) e at =
    let lengths : length xs ≡ length ys = omega (arith, e) in
    let some : 0 < length (x ∷ xs) = omega arith in
    let is : Some x ≡ Some y = at 0 some in
    let first : x ≡ y = cc in
    ap₂ (λ z zs. z ∷ zs) first (same-at xs ys lengths (λ i lt. at (suc i) (omega (arith, lt))))
same-at xs ys e at = absurd (omega (arith, e))

pub get-take : {B : Type 0} (n : ℕ) (xs : List B) (i : ℕ) → i < n → slice_get (take n xs) i ≡ slice_get xs i
get-take zero xs i lt = absurd (omega (arith, lt))
get-take (suc n) [] i lt = refl
get-take (suc n) (x ∷ xs) zero lt = refl
get-take (suc n) (x ∷ xs) (suc i) lt = get-take n xs i (omega (arith, lt))

abbrev pub count_of : Option SegmentData → ℕ
count_of o = option_map_or (λ segment. length segment.pages) o 0

abbrev pub page_at : Option SegmentData → ℕ → Option Kept
page_at o i = option_and_then (λ segment. slice_get segment.pages i) o

-- one segment, by its stage, and its pages one by one
pub same-segment : (a b : Option SegmentData) (x y : Stage) → Some x ≡ option_map (λ segment. segment.stage) a → Some y ≡ option_map (λ segment. segment.stage) b
    → x ≡ y → count_of a ≡ count_of b → ((i : ℕ) → i < count_of a → option_map page_outline (page_at a i) ≡ option_map page_outline (page_at b i))
    → option_map outline a ≡ option_map outline b
same-segment None b x y ea eb same counts at = absurd (cc)
same-segment (Some a) None x y ea eb same counts at = absurd (cc)
same-segment (Some a) (Some b) x y ea eb same counts at =
    let stage : a.stage ≡ b.stage = cc in
    let lengths : length (map page_outline a.pages) ≡ length (map page_outline b.pages) =
    length-map a.pages page_outline ∙ counts ∙ sym (length-map b.pages page_outline) in
    let pages : map page_outline a.pages ≡ map page_outline b.pages =
    same-at (map page_outline a.pages) (map page_outline b.pages) lengths
    (λ i lt. slice_get-map page_outline a.pages i ∙ at i (omega (arith, lt, length-map a.pages page_outline)) ∙ sym (slice_get-map page_outline b.pages i)) in
    ap₂ (λ s ps. Some (s, ps)) stage pages

segment-tested : (stack : List SegmentData) (newer : ℕ) → newer < length stack → (nat_le 1 (length stack - newer) && nat_le (length stack - newer) (length stack)) ≡ true
segment-tested stack newer h = grind (arith, nat_tests)

-- the segment that so many are newer than
newer-segment : (s : StateData) (newer : ℕ) → newer < length s.stack → segment_of s (length s.stack - newer) ≡ slice_get s.stack newer
newer-segment s newer h =
    let place : length s.stack - (length s.stack - newer) ≡ newer = omega arith in
    ap (λ b. if b then slice_get s.stack (length s.stack - (length s.stack - newer)) else None) (segment-tested s.stack newer h) ∙ ap (slice_get s.stack) place

-- the newest segments, one by one
pub same-stack : (s t : StateData) (given_up : ℕ) → given_up ≤ depth s → depth t ≡ depth s - given_up
    → ((k : ℕ) → k < depth t → option_map outline (segment_of s (k + given_up + 1)) ≡ option_map outline (segment_of t (k + 1)))
    → map outline t.stack ≡ map outline (take (depth s - given_up) s.stack)
same-stack s t given_up within depths at =
    let n : ℕ = depth s - given_up in
    let less : n ≤ length s.stack = omega arith in
    let lengths : length (map outline t.stack) ≡ length (map outline (take n s.stack)) =
    length-map t.stack outline ∙ depths ∙ sym (length-map (take n s.stack) outline ∙ length-take-le n s.stack less) in
    same-at (map outline t.stack) (map outline (take n s.stack)) lengths
    (λ i lt.
    let h : i < length t.stack = omega (arith, lt, length-map t.stack outline) in
    let inside : i < n = omega (arith, h, depths) in
    let below : i < length s.stack = omega (arith, inside) in
    let k : ℕ = length t.stack - i - 1 in
    let here : k < depth t = omega (arith, h) in
    let of_t : k + 1 ≡ length t.stack - i = omega (arith, h) in
    let of_s : k + given_up + 1 ≡ length s.stack - i = omega (arith, h, depths, within) in
    slice_get-map outline t.stack i
    ∙ ap (option_map outline) (sym (newer-segment t i h))
    ∙ ap (λ m. option_map outline (segment_of t m)) (sym of_t)
    ∙ sym (at k here)
    ∙ ap (λ m. option_map outline (segment_of s m)) of_s
    ∙ ap (option_map outline) (newer-segment s i below)
    ∙ ap (option_map outline) (sym (get-take n s.stack i inside))
    ∙ sym (slice_get-map outline (take n s.stack) i))
