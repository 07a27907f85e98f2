-- The pages at work: where they stand in the journal.
use Rattle.std.proofs.Common.{◌≡◌, ◌⊎◌, ⊎_elim, inl, inr, ℕ, zero, suc, ◌+◌, ◌*◌, ◌<◌, ◌≤◌, Bool, true, false, not, ◌||◌, ◌&&◌, ◌==◌, cond, if◌then◌else◌, List, [], ◌∷◌, ◌++◌, length, take, sum, Option, Some, None, option_map, refl, sym, ◌∙◌, ap, ap₂, subst, arith, IsTrue}
use Rattle.std.specs.Prelude.{filter_map, is_none, option_and_then, slice_get}
use Rattle.std.specs.List.{find, list_any}
use Rattle.std.proofs.lemmas.Bool.{false≢true, cases_eq, cases_lt, ne_eqb, eq-eqb}
use Rattle.std.proofs.lemmas.Bool.Decides.{nat_tests}
use Rattle.std.proofs.lemmas.List.{get_or_past}
use Rattle.std.proofs.lemmas.List.Concat.{flat_map-append}
use Rattle.std.proofs.lemmas.List.Elements.{filter_map-append}
use Rattle.std.proofs.lemmas.List.Sums.{fold-append}
use Rattle.stm_wire.specs.declared.intent.Intent.{Intent}
use Rattle.stm_wire.proofs.Names.{ChipData, flash_size, page_count, page_size, with_page}
use Rattle.stm_wire.specs.lemmas.PageLaws.{page_end, page_within}
use Rattle.stm_journal.specs.declared.header.JournalHeader.{JournalHeader}
use Rattle.stm_journal.specs.declared.kept.Kept.{Kept}
use Rattle.stm_journal.specs.declared.kept.PagePlace.{PagePlace}
use Rattle.stm_journal.proofs.Names.{AllFit, AllOnce, intent_of, intent_page, IsSound, keeps, kept_at, kept_count, kept_entry, kept_place, newest_has, newest_intent, newest_keeps, page_place}
use Rattle.stm_journal.proofs.Names.{pages_of_segments, PagesOnce, place_of, segment_of, SegmentData, StateData}
use Rattle.stm_journal.specs.lemmas.FitsLaws.{fits-exists}
use Rattle.stm_journal.specs.lemmas.NewestLaws.{segment_of-newest}
use Rattle.stm_session.proofs.Names.{beside, has_companion, IsJournalOf, kept_at_work, kept_of, newest_kept, pages_at_work, pages_kept, pages_of_intent, rewrite_entries, segment_pages, with_work}
use Rattle.stm_session.proofs.Names.{work_entries}
use Rattle.stm_session.proofs.Keeping.{companion_kept}
use Rattle.stm_session.proofs.Misfits.{companion-kept}
use Rattle.stm_session.proofs.Returns.{any_at, count_newest, entry_newest, fits_line, newest_once}

-- a page that is among some stands in a place of theirs
found : (pages : List Kept) (n : ℕ) → list_any (λ k. k.page == n) pages ≡ true
    → (k : Kept) × (i : ℕ) × (find (λ x. x.page == n) pages ≡ Some k) × (slice_get pages i ≡ Some k) × (k.page ≡ n) × (i < length pages)
found [] n h = absurd (false≢true h)
found (x ∷ pages) n h = by_case (cases_eq x.page n) (λ ne. found pages n (ap (λ (b : Bool). b || list_any (λ k. k.page == n) pages) (sym (ne_eqb x.page n ne)) ∙ h))
  where
    Found : List Kept → Type 0
    Found all = (k : Kept) × (i : ℕ) × (find (λ y. y.page == n) all ≡ Some k) × (slice_get all i ≡ Some k) × (k.page ≡ n) × (i < length all)

    by_case : (x.page ≡ n) ⊎ (x.page ≡ n → ⊥) → ((x.page ≡ n → ⊥) → Found pages) → Found (x ∷ pages)
    by_case (inl e) rest = (x, zero, ap (λ (b : Bool). cond b (Some x) (find (λ y. y.page == n) pages)) (eq-eqb x.page n e), refl, e, omega arith)
    by_case (inr ne) rest =
        let r = rest ne in
        (r.0, suc r.1, ap (λ (b : Bool). cond b (Some x) (find (λ y. y.page == n) pages)) (ne_eqb x.page n ne) ∙ r.2, r.3, r.4, omega (arith, r.5))

-- and where each stands once, it is the one in that place
found_at : (pages : List Kept) (i : ℕ) (k : Kept) → PagesOnce pages → slice_get pages i ≡ Some k → find (λ x. x.page == k.page) pages ≡ Some k
found_at [] i k once is = absurd (let h : None ≡ Some k = is in cc)
found_at (x ∷ pages) zero k once is =
    let some : Some x ≡ Some k = is in
    let same : x ≡ k = cc in
    ap (λ (b : Bool). cond b (Some x) (find (λ y. y.page == k.page) pages)) (eq-eqb x.page k.page (ap (λ (y : Kept). y.page) same)) ∙ some
found_at (x ∷ pages) (suc i) k once is =
    let other : x.page ≡ k.page → ⊥ = λ e. let P : ℕ → Type 0 = λ m. list_any (λ y. y.page == m) pages ≡ true in false≢true (sym once.0 ∙ subst P (sym e) (any_at pages i k is)) in
    ap (λ (b : Bool). cond b (Some x) (find (λ y. y.page == k.page) pages)) (ne_eqb x.page k.page other) ∙ found_at pages i k once.1 is

-- a page that the newest segment keeps stands in one of its lines
pub record StandsAt (s : StateData) (newest n : ℕ) : Type 0 where
  pub i : ℕ
  pub line : ℕ
  pub within : i < kept_count s newest
  pub number : kept_at s newest i ≡ Some (n, line)
  pub somewhere : None ≡ page_place s newest n → ⊥
  pub place : (place : PagePlace) → Some place ≡ page_place s newest n → kept_place s newest i ≡ Some place

pub stands_at : (s : StateData) (newest n : ℕ) → newest ≡ length s.stack → IsTrue (newest_keeps n s) → StandsAt s newest n
stands_at s newest n is kept = at s.header s.stack is kept
  where
    at : (header : Option JournalHeader) (stack : List SegmentData) → newest ≡ length stack → IsTrue (newest_keeps n (record { header = header; stack = stack }))
        → StandsAt (record { header = header; stack = stack }) newest n
    at header [] is kept = absurd (false≢true kept)
    at header (segment ∷ below) is kept =
        let t : StateData = record { header = header; stack = segment ∷ below } in
        let r = found segment.pages n kept in
        let own : segment_of t newest ≡ Some segment = ap (λ (m : ℕ). segment_of t m) is ∙ segment_of-newest header segment below in
        let there : kept_entry t newest r.1 ≡ Some r.0 = entry_newest t newest r.1 is ∙ r.3 in
        let placed : page_place t newest n ≡ Some (place_of r.0) =
        ap (λ (o : Option SegmentData). option_map place_of (option_and_then (λ x. find (λ y. y.page == n) x.pages) o)) own ∙ ap (λ (o : Option Kept). option_map place_of o) r.2 in
        record {
          i = r.1;
          line = r.0.line;
          within = omega (arith, r.5, count_newest t newest is);
          number = ap (λ (o : Option Kept). option_map {U = ℕ × ℕ} (λ k. (k.page, k.line)) o) there ∙ ap (λ (m : ℕ). Some (m, r.0.line)) r.4;
          somewhere = λ e. let h : None ≡ Some (place_of r.0) = e ∙ placed in cc;
          place = λ place e. ap (λ (o : Option Kept). option_map place_of o) there ∙ sym placed ∙ sym e;
        }

-- and it is what is kept of that page
pub kept_is : (t : StateData) (newest i n : ℕ) (kept : Kept) → newest ≡ length t.stack → AllOnce t.stack → kept_entry t newest i ≡ Some kept → kept.page ≡ n → kept_of t.stack (n ∷ []) ≡ kept ∷ []
kept_is t newest i n kept is once entry number =
    ap (λ (m : ℕ). kept_of t.stack (m ∷ [])) (sym number)
    ∙ ap (λ (o : Option Kept). filter_map (λ (x : Option Kept). x) (o ∷ [])) (found_at (newest_kept t.stack) i kept (newest_once t.stack once) (sym (entry_newest t newest i is) ∙ entry))

-- a page has a place in the newest segment where that keeps it
placed : (s : StateData) (newest n : ℕ) → newest ≡ length s.stack → is_none (page_place s newest n) ≡ not (newest_keeps n s)
placed s newest n is = companion-kept s newest n ∙ ap (λ (k : ℕ). not (list_any (λ kept. kept.page == n) (segment_pages s k))) is ∙ at s.header s.stack
  where
    at : (header : Option JournalHeader) (stack : List SegmentData)
        → not (list_any (λ kept. kept.page == n) (segment_pages (record { header = header; stack = stack }) (length stack))) ≡ not (newest_keeps n (record { header = header; stack = stack }))
    at header [] = refl
    at header (segment ∷ below) = ap (λ (o : Option SegmentData). not (list_any (λ kept. kept.page == n) (pages_kept o))) (segment_of-newest header segment below)

pub place_keeps : (s : StateData) (newest n : ℕ) (place : PagePlace) → newest ≡ length s.stack → Some place ≡ page_place s newest n → newest_keeps n s ≡ true
place_keeps s newest n place is some = by_kept (newest_keeps n s) (ap (λ (o : Option PagePlace). is_none o) some ∙ placed s newest n is)
  where
    by_kept : (b : Bool) → false ≡ not b → b ≡ true
    by_kept true e = refl
    by_kept false e = absurd (false≢true e)

pub no_place_keeps : (s : StateData) (newest n : ℕ) → newest ≡ length s.stack → None ≡ page_place s newest n → newest_keeps n s ≡ false
no_place_keeps s newest n is none = by_kept (newest_keeps n s) (ap (λ (o : Option PagePlace). is_none o) none ∙ placed s newest n is)
  where
    by_kept : (b : Bool) → true ≡ not b → b ≡ false
    by_kept true e = absurd (false≢true (sym e))
    by_kept false e = refl

-- without an intent there is none
pub no_pages : (stack : List SegmentData) → newest_intent stack ≡ None → pages_at_work stack ≡ []
no_pages stack none = ap (λ (o : Option Intent). pages_of_intent o (newest_has (λ segment. keeps segment 257) stack)) none

-- with one there is its page first
pub work_pages : (stack : List SegmentData) (intent : Intent) (n : ℕ) (k : Bool) → newest_intent stack ≡ Some intent → n ≡ intent_page intent → k ≡ newest_has (λ segment. keeps segment 257) stack → pages_at_work stack ≡ n ∷ beside n k
work_pages stack intent n k intended number same =
    ap (λ (o : Option Intent). pages_of_intent o (newest_has (λ segment. keeps segment 257) stack)) intended
    ∙ ap₂ (λ (m : ℕ) (b : Bool). m ∷ beside m b) (sym number) (sym same)

-- what is kept of it, and of the page beside it, where the segments keep what they kept
same_newest : (xs ys : List SegmentData) → pages_of_segments ys ≡ pages_of_segments xs → newest_kept ys ≡ newest_kept xs
same_newest [] [] e = refl
same_newest [] (y ∷ ys) e = absurd (cc)
same_newest (x ∷ xs) [] e = absurd (cc)
same_newest (x ∷ xs) (y ∷ ys) e = cc

pub work_kept : (xs ys : List SegmentData) (intent : Intent) (n : ℕ) (k : Bool) → newest_intent xs ≡ Some intent → n ≡ intent_page intent → k ≡ newest_has (λ segment. keeps segment 257) xs → pages_of_segments ys ≡ pages_of_segments xs
    → kept_at_work xs ≡ kept_of xs (n ∷ []) ++ kept_of ys (beside n k)
work_kept xs ys intent n k intended number keeps_it same =
    let in_these : List Kept → ℕ → Option Kept = λ pages m. find (λ kept. kept.page == m) pages in
    ap (λ (ms : List ℕ). kept_of xs ms) (work_pages xs intent n k intended number keeps_it)
    ∙ filter_map-append (in_these (newest_kept xs)) (n ∷ []) (beside n k)
    ∙ ap (λ (pages : List Kept). kept_of xs (n ∷ []) ++ filter_map (in_these pages) (beside n k)) (sym (same_newest xs ys same))

-- the page beside another
pub none_beside : (n : ℕ) (k : Bool) → (n ≡ 1 → ⊥) → beside n k ≡ []
none_beside n k other = ap (λ (b : Bool). if b && k then 257 ∷ [] else []) (ne_eqb n 1 other)

pub lacks_beside : (n : ℕ) (k : Bool) → k ≡ false → beside n k ≡ []
lacks_beside n k lacks = ap (λ (b : Bool). beside n b) lacks ∙ by_page (n == 1)
  where
    Beside : Bool → List ℕ
    Beside b = if b && false then 257 ∷ [] else []

    by_page : (b : Bool) → Beside b ≡ []
    by_page true = refl
    by_page false = refl

pub one_beside : (n : ℕ) (k : Bool) → n ≡ 1 → k ≡ true → beside n k ≡ 257 ∷ []
one_beside n k one kept = ap₂ (λ (b c : Bool). if b && c then 257 ∷ [] else []) (eq-eqb n 1 one) kept

-- what is put back one after another
pub work-lines : (chip : ChipData) (xs ys zs : List Kept) → zs ≡ xs ++ ys → work_entries chip xs ++ work_entries chip ys ≡ work_entries chip zs
work-lines chip xs ys zs is = sym (flat_map-append (λ (kept : Kept). rewrite_entries chip kept.page kept.bytes) xs ys) ∙ ap (λ (ks : List Kept). work_entries chip ks) (sym is)

pub work-flash : (chip : ChipData) (xs ys zs : List Kept) (flash : List ℕ) → zs ≡ xs ++ ys → with_work chip ys (with_work chip xs flash) ≡ with_work chip zs flash
work-flash chip xs ys zs flash is = sym (fold-append (λ (f : List ℕ) (kept : Kept). with_page chip kept.page kept.bytes f) flash xs ys) ∙ ap (λ (ks : List Kept). with_work chip ks flash) (sym is)

-- both are no more than the flash
pub both_within : (chip : ChipData) (n : ℕ) → 3 * page_size chip n + (if n == 1 then 3 * page_size chip 257 else 0) ≤ 3 * flash_size chip
both_within chip n = by_page (cases_eq n 1)
  where
    first : page_size chip 1 ≤ sum (take 257 chip.sizes)
    first = ⊎_elim (λ here. omega (arith, page_end chip.sizes 1 257 (omega arith) here)) (λ past. omega (arith, get_or_past chip.sizes 1 0 past)) (cases_lt 1 (length chip.sizes))

    by_page : (n ≡ 1) ⊎ (n ≡ 1 → ⊥) → 3 * page_size chip n + (if n == 1 then 3 * page_size chip 257 else 0) ≤ 3 * flash_size chip
    by_page (inl one) =
        let most : (if n == 1 then 3 * page_size chip 257 else 0) ≡ 3 * page_size chip 257 = ap (λ (b : Bool). if b then 3 * page_size chip 257 else 0) (eq-eqb n 1 one) in
        let size : page_size chip n ≡ page_size chip 1 = ap (λ (m : ℕ). page_size chip m) one in
        omega (arith, most, size, first, page_within chip.sizes 257)
    by_page (inr other) =
        let most : (if n == 1 then 3 * page_size chip 257 else 0) ≡ 0 = ap (λ (b : Bool). if b then 3 * page_size chip 257 else 0) (ne_eqb n 1 other) in
        omega (arith, most, page_within chip.sizes n)

-- a page that the newest segment keeps is one of the chip's
pub newest_exists : (chip : ChipData) (stack : List SegmentData) (n : ℕ) → AllFit chip stack → newest_has (λ segment. keeps segment n) stack ≡ true → n < page_count chip
newest_exists chip [] n fits h = absurd (false≢true h)
newest_exists chip (segment ∷ below) n fits h =
    let r = found segment.pages n h in
    let P : ℕ → Type 0 = λ m. m < page_count chip in
    subst P r.4 (fits-exists chip r.0 (fits_line chip segment.pages r.1 r.0 fits.0 r.3))

-- in a journal of a chip page 257 is at work with page 1 where the chip has it
has_one : (chip : ChipData) (stack : List SegmentData) → AllFit chip stack → newest_has (λ segment. keeps segment 257) stack ≡ true → has_companion chip ≡ true
has_one chip stack fits h =
    let many : 257 < page_count chip = newest_exists chip stack 257 fits h in
    grind (arith, nat_tests)

pub work_by_chip : (chip : ChipData) (s : StateData) → IsSound s → IsJournalOf chip s → pages_at_work s.stack ≡ pages_of_intent (intent_of s) (has_companion chip)
work_by_chip chip s sound fits = by_intent (intent_of s) sound.intended
  where
    by_both : (a b : Bool) → (a ≡ true → b ≡ true) → (b ≡ true → a ≡ true) → a ≡ b
    by_both true b there back = sym (there refl)
    by_both false true there back = back refl
    by_both false false there back = refl

    same : newest_keeps 1 s ≡ true → newest_keeps 257 s ≡ has_companion chip
    same one = by_both (newest_keeps 257 s) (has_companion chip) (has_one chip s.stack fits.pages) (λ has. companion_kept chip s fits has one)

    by_page : (n : ℕ) → newest_keeps n s ≡ true → (n ≡ 1) ⊎ (n ≡ 1 → ⊥) → beside n (newest_keeps 257 s) ≡ beside n (has_companion chip)
    by_page n kept (inl one) = let K : ℕ → Type 0 = λ m. newest_keeps m s ≡ true in ap (λ (b : Bool). beside n b) (same (subst K one kept))
    by_page n kept (inr other) = none_beside n (newest_keeps 257 s) other ∙ sym (none_beside n (has_companion chip) other)

    by_intent : (o : Option Intent) → ((i : Intent) → o ≡ Some i → newest_keeps (intent_page i) s ≡ true) → pages_of_intent o (newest_keeps 257 s) ≡ pages_of_intent o (has_companion chip)
    by_intent None own = refl
    by_intent (Some i) own = ap (λ (ns : List ℕ). intent_page i ∷ ns) (by_page (intent_page i) (own i refl) (cases_eq (intent_page i) 1))
