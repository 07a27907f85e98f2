-- How many bytes segments keep, and what an undo answers that tells them.
use Rattle.std.proofs.Common.{◌≡◌, ℕ, zero, suc, ◌+◌, ◌-◌, ◌<◌, Bool, true, false, if◌then◌else◌, List, [], ◌∷◌, length, take, Option, Some, None, option_map, Result, Ok, Err, IsErrAnd, refl, sym, ◌∙◌, ap, subst, arith}
use Rattle.std.specs.Prelude.{slice_get, option_and_then, nat_le, ◌&&◌}
use Rattle.stm_wire.proofs.Names.{ChipData, page_count, page_size}
use Rattle.stm_journal.specs.declared.kept.Kept.{Kept}
use Rattle.stm_journal.proofs.Names.{AllFit, AllKeptFit, kept_at, kept_count, pages_of_segments, segment_of, SegmentData, StateData}
use Rattle.stm_journal.specs.lemmas.FitsLaws.{fits-exists}
use Rattle.stm_session.proofs.Names.{bytes_of_pages, Fault, kept_bytes, pages_kept, Returned, segment_pages, segments_of}
use Rattle.stm_session.proofs.Returns.{fits_line}
use Rattle.stm_session.proofs.Misfits.{newer-segment}
use Rattle.std.specs.Option.{option_map_or}

-- a fault is answered as it is
pub err_of : (result : Result Returned Fault) (P : Fault → Type 0) → IsErrAnd result P → IsErrAnd (segments_of result) P
err_of (Ok returned) P is = absurd is
err_of (Err fault) P is = is

-- the i-th page of a segment
line_of : (o : Option SegmentData) (i n line : ℕ) → option_map {U = ℕ × ℕ} (λ kept. (kept.page, kept.line)) (option_and_then (λ segment. slice_get segment.pages i) o) ≡ Some (n, line)
    → (kept : Kept) × (slice_get (pages_kept o) i ≡ Some kept) × (kept.page ≡ n)
line_of None i n line is = absurd (let h : ◌≡◌ {A = Option (ℕ × ℕ)} None (Some (n, line)) = is in cc)
line_of (Some segment) i n line is = here (slice_get segment.pages i) refl is
  where
    here : (o : Option Kept) → slice_get segment.pages i ≡ o → option_map {U = ℕ × ℕ} (λ kept. (kept.page, kept.line)) (slice_get segment.pages i) ≡ Some (n, line)
        → (kept : Kept) × (slice_get segment.pages i ≡ Some kept) × (kept.page ≡ n)
    here None at e = absurd (let h : ◌≡◌ {A = Option (ℕ × ℕ)} None (Some (n, line)) = sym (ap (λ (x : Option Kept). option_map {U = ℕ × ℕ} (λ kept. (kept.page, kept.line)) x) at) ∙ e in cc)
    here (Some kept) at e =
        let both : Some (kept.page, kept.line) ≡ Some (n, line) = sym (ap (λ (x : Option Kept). option_map {U = ℕ × ℕ} (λ k. (k.page, k.line)) x) at) ∙ e in
        let pair : (kept.page, kept.line) ≡ (n, line) = cc in
        (kept, at, ap (λ (p : ℕ × ℕ). p.0) pair)

pub line_at : (s : StateData) (k i n line : ℕ) → kept_at s k i ≡ Some (n, line) → (kept : Kept) × (slice_get (segment_pages s k) i ≡ Some kept) × (kept.page ≡ n)
line_at s k i n line is = line_of (segment_of s k) i n line is

-- there is one for each index
pub no_line : (s : StateData) (k i : ℕ) → i < length (segment_pages s k) → None ≡ kept_at s k i → ⊥
no_line s k i lt is = nowhere (segment_of s k) lt is
  where
    past : (pages : List Kept) (i : ℕ) → i < length pages → (kept : Kept) × (slice_get pages i ≡ Some kept)
    past [] i lt = absurd (omega (arith, lt))
    past (x ∷ pages) zero lt = (x, refl)
    past (x ∷ pages) (suc i) lt = past pages i (omega (arith, lt))

    nowhere : (o : Option SegmentData) → i < length (pages_kept o) → None ≡ option_map {U = ℕ × ℕ} (λ kept. (kept.page, kept.line)) (option_and_then (λ segment. slice_get segment.pages i) o) → ⊥
    nowhere None lt is = omega (arith, lt)
    nowhere (Some segment) lt is =
        let there = past segment.pages i lt in
        let h : ◌≡◌ {A = Option (ℕ × ℕ)} None (Some (there.0.page, there.0.line)) = is ∙ ap (λ (x : Option Kept). option_map {U = ℕ × ℕ} (λ k. (k.page, k.line)) x) there.1 in
        cc

-- its pages are the chip's
fits_at : (chip : ChipData) (stack : List SegmentData) (j : ℕ) → AllFit chip stack → AllKeptFit chip (pages_kept (slice_get stack j))
fits_at chip [] j fits = tt
fits_at chip (segment ∷ below) zero fits = fits.0
fits_at chip (segment ∷ below) (suc j) fits = fits_at chip below j fits.1

fits_if : (chip : ChipData) (b : Bool) (o : Option SegmentData) → AllKeptFit chip (pages_kept o) → AllKeptFit chip (pages_kept (if b then o else None))
fits_if chip true o fits = fits
fits_if chip false o fits = tt

pub page_exists : (chip : ChipData) (s : StateData) (k i n line : ℕ) → AllFit chip s.stack → kept_at s k i ≡ Some (n, line) → n < page_count chip
page_exists chip s k i n line fits is =
    let there = line_at s k i n line is in
    let own = fits_if chip (nat_le 1 k && nat_le k (length s.stack)) (slice_get s.stack (length s.stack - k)) (fits_at chip s.stack (length s.stack - k) fits) in
    let P : ℕ → Type 0 = λ m. m < page_count chip in
    subst P there.2 (fits-exists chip there.0 (fits_line chip (segment_pages s k) i there.0 own there.1))

-- one page more
pub bytes_next : (chip : ChipData) (pages : List Kept) (i : ℕ) (kept : Kept) → slice_get pages i ≡ Some kept → bytes_of_pages chip (take (suc i) pages) ≡ bytes_of_pages chip (take i pages) + page_size chip kept.page
bytes_next chip [] i kept at = absurd (let h : None ≡ Some kept = at in cc)
bytes_next chip (x ∷ pages) zero kept at =
    let some : Some x ≡ Some kept = at in
    let same : x ≡ kept = cc in
    let size = ap (λ (k : Kept). page_size chip k.page) same in
    omega (arith, size)
bytes_next chip (x ∷ pages) (suc i) kept at = let rest = bytes_next chip pages i kept at in omega (arith, rest)

-- and one segment more
pub kept_next : (chip : ChipData) (stack : List SegmentData) (n : ℕ) (segment : SegmentData) → slice_get stack n ≡ Some segment
    → kept_bytes chip (suc n) (pages_of_segments stack) ≡ kept_bytes chip n (pages_of_segments stack) + bytes_of_pages chip segment.pages
kept_next chip [] n segment at = absurd (let h : None ≡ Some segment = at in cc)
kept_next chip (x ∷ below) zero segment at =
    let some : Some x ≡ Some segment = at in
    let same : x ≡ segment = cc in
    let size = ap (λ (s : SegmentData). bytes_of_pages chip s.pages) same in
    omega (arith, size)
kept_next chip (x ∷ below) (suc n) segment at = let rest = kept_next chip below n segment at in omega (arith, rest)

-- of the journal that is read from its newest segment on
pub kept_more : (chip : ChipData) (s : StateData) (n : ℕ) → n < length s.stack
    → kept_bytes chip (n + 1) (pages_of_segments s.stack) ≡ kept_bytes chip n (pages_of_segments s.stack) + bytes_of_pages chip (segment_pages s (length s.stack - n))
kept_more chip s n lt =
    let one : n + 1 ≡ suc n = omega arith in
    let there = segment_at s.stack n lt in
    let pages : segment_pages s (length s.stack - n) ≡ there.0.pages = ap pages_kept (newer-segment s n lt ∙ there.1) in
    ap (λ (m : ℕ). kept_bytes chip m (pages_of_segments s.stack)) one ∙ kept_next chip s.stack n there.0 there.1
    ∙ ap (λ (ps : List Kept). kept_bytes chip n (pages_of_segments s.stack) + bytes_of_pages chip ps) (sym pages)
  where
    segment_at : (stack : List SegmentData) (i : ℕ) → i < length stack → (segment : SegmentData) × (slice_get stack i ≡ Some segment)
    segment_at [] i lt = absurd (omega (arith, lt))
    segment_at (x ∷ stack) zero lt = (x, refl)
    segment_at (x ∷ stack) (suc i) lt = segment_at stack i (omega (arith, lt))

pub count_pages : (s : StateData) (k : ℕ) → kept_count s k ≡ length (segment_pages s k)
count_pages s k = at (segment_of s k)
  where
    at : (o : Option SegmentData) → option_map_or (λ segment. length segment.pages) o 0 ≡ length (pages_kept o)
    at None = refl
    at (Some segment) = refl
