-- The pages that the newest segment keeps, line by line, and what putting them back makes of the flash and adds to the journal.
use Rattle.std.proofs.Common.{◌≡◌, ◌≢◌, ℕ, zero, suc, ◌+◌, ◌<◌, ◌≤◌, Bool, true, false, ◌||◌, ◌==◌, if◌then◌else◌, List, [], ◌∷◌, ◌++◌, length, take, drop, Option, Some, None, option_map, refl, sym, ◌∙◌, ap, subst, arith, append-nil, append_assoc, IsTrue}
use Rattle.std.specs.Prelude.{slice_get, option_and_then, flat_map, bytes_eq}
use Rattle.std.specs.List.{list_any}
use Rattle.std.specs.Option.{option_map_or}
use Rattle.std.proofs.lemmas.Bool.{false≢true, eq-eqb}
use Rattle.stm_wire.proofs.Names.{ChipData, flash_size, page_count, page_of, page_offset, page_size, with_page}
use Rattle.stm_wire.specs.lemmas.PageLaws.{length-with_bytes, other_page, page_within}
use Rattle.stm_journal.specs.declared.entry.Entry.{Entry}
use Rattle.stm_journal.specs.declared.kept.Kept.{Kept}
use Rattle.stm_journal.specs.declared.kept.PagePlace.{PagePlace}
use Rattle.stm_journal.proofs.Names.{AllFit, AllKeptFit, AllOnce, fits_chip, IsLoaded, KeepsSame, kept_at, kept_count, kept_entry, kept_place, Loaded, newest_keeps, PagesOnce, place_of, SegmentData}
use Rattle.stm_journal.proofs.Names.{StateData}
use Rattle.stm_journal.specs.lemmas.FitsLaws.{fits-exists, fits-size}
use Rattle.stm_journal.specs.lemmas.ForgetLaws.{kept_at-forgets, kept_count-forgets, kept_place-forgets}
use Rattle.stm_journal.specs.lemmas.NewestLaws.{newest_keeps_kept, segment_of-newest}
use Rattle.stm_session.proofs.Names.{newest_at, newest_kept, return_entries, rewrite_entries, state_at, with_pages}
use Rattle.stm_session.proofs.Keeping.{depth_text, fits_pages, text_is}

-- what the readers tell of the newest segment
pub entry_newest : (s : StateData) (k i : ℕ) → k ≡ length s.stack → kept_entry s k i ≡ slice_get (newest_kept s.stack) i
entry_newest s k i is = ap (λ (m : ℕ). kept_entry s m i) is ∙ at s.stack
  where
    at : (stack : List SegmentData) → kept_entry (record { header = s.header; stack = stack }) (length stack) i ≡ slice_get (newest_kept stack) i
    at [] = refl
    at (segment ∷ below) = ap (λ (o : Option SegmentData). option_and_then (λ x. slice_get x.pages i) o) (segment_of-newest s.header segment below)

pub count_newest : (s : StateData) (k : ℕ) → k ≡ length s.stack → kept_count s k ≡ length (newest_kept s.stack)
count_newest s k is = ap (λ (m : ℕ). kept_count s m) is ∙ at s.stack
  where
    at : (stack : List SegmentData) → kept_count (record { header = s.header; stack = stack }) (length stack) ≡ length (newest_kept stack)
    at [] = refl
    at (segment ∷ below) = ap (λ (o : Option SegmentData). option_map_or (λ x. length x.pages) o 0) (segment_of-newest s.header segment below)

line_exists : (pages : List Kept) (i : ℕ) → i < length pages → (k : Kept) × (slice_get pages i ≡ Some k)
line_exists [] i lt = absurd (omega (arith, lt))
line_exists (x ∷ pages) zero lt = (x, refl)
line_exists (x ∷ pages) (suc i) lt = line_exists pages i (omega (arith, lt))

pub fits_line : (chip : ChipData) (pages : List Kept) (i : ℕ) (k : Kept) → AllKeptFit chip pages → slice_get pages i ≡ Some k → fits_chip chip k ≡ true
fits_line chip [] i k fits is = absurd (let h : None ≡ Some k = is in cc)
fits_line chip (x ∷ pages) zero k fits is =
    let some : Some x ≡ Some k = is in
    let same : x ≡ k = cc in
    subst (λ (kept : Kept). fits_chip chip kept ≡ true) same fits.0
fits_line chip (x ∷ pages) (suc i) k fits is = fits_line chip pages i k fits.1 is

pub newest_fits : (chip : ChipData) (stack : List SegmentData) → AllFit chip stack → AllKeptFit chip (newest_kept stack)
newest_fits chip [] fits = tt
newest_fits chip (segment ∷ below) fits = fits.0

pub newest_once : (stack : List SegmentData) → AllOnce stack → PagesOnce (newest_kept stack)
newest_once [] once = tt
newest_once (segment ∷ below) once = once.0

-- the i-th line of the newest segment, while it keeps what it kept
module _ (s s2 : StateData) (newest i : ℕ) (same : KeepsSame s s2) (is : newest ≡ length s.stack) (lt : i < kept_count s newest) where
  there : (k : Kept) × (kept_entry s2 newest i ≡ Some k)
  there =
      let line = line_exists (newest_kept s.stack) i (omega (arith, lt, count_newest s newest is)) in
      (line.0, same.entry newest i ∙ entry_newest s newest i is ∙ line.1)

  pub no_place : None ≡ kept_place s2 newest i → ⊥
  no_place e = let h : None ≡ Some (place_of there.0) = e ∙ ap (λ (o : Option Kept). option_map place_of o) there.1 in cc

  still_newest : newest ≡ length s2.stack
  still_newest = is ∙ sym same.depth

  module _ (chip : ChipData) (n line : ℕ) (fits : AllFit chip s.stack) (number_is : kept_at s2 newest i ≡ Some (n, line)) where
    number : n ≡ there.0.page
    number =
        let pair : Some (n, line) ≡ Some (there.0.page, there.0.line) = sym number_is ∙ ap (λ (o : Option Kept). option_map {U = ℕ × ℕ} (λ kept. (kept.page, kept.line)) o) there.1 in
        let first : (n, line) ≡ (there.0.page, there.0.line) = cc in
        ap (λ (p : ℕ × ℕ). p.0) first

    line_fits : fits_chip chip there.0 ≡ true
    line_fits =
        fits_line chip (newest_kept s2.stack) i there.0 (newest_fits chip s2.stack (fits_pages chip s.stack s2.stack same.same fits)) (sym (entry_newest s2 newest i still_newest) ∙ there.1)

    pub the_kept : (k : Kept) × (slice_get (newest_kept s.stack) i ≡ Some k) × (k.page ≡ n)
    the_kept = (there.0, sym (entry_newest s newest i is) ∙ sym (same.entry newest i) ∙ there.1, sym number)

    pub number_exists : n < page_count chip
    number_exists = let P : ℕ → Type 0 = λ m. m < page_count chip in subst P (sym number) (fits-exists chip there.0 line_fits)

    pub number_kept : IsTrue (newest_keeps n s2)
    number_kept = newest_keeps_kept s2 newest i n line still_newest number_is

    pub place_fits : (place : PagePlace) → kept_place s2 newest i ≡ Some place → place.length ≡ page_size chip n
    place_fits place place_is =
        let some : Some place ≡ Some (place_of there.0) = sym place_is ∙ ap (λ (o : Option Kept). option_map place_of o) there.1 in
        let one : place ≡ place_of there.0 = cc in
        ap (λ (p : PagePlace). p.length) one ∙ fits-size chip there.0 line_fits ∙ ap (λ (m : ℕ). page_size chip m) (sym number)

-- the same line in the text
place_text : (l : Loaded) (journal : List ℕ) (k i : ℕ) → IsLoaded l journal → kept_place l.state k i ≡ kept_place (state_at journal) k i
place_text l journal k i loaded =
    ap (λ (s : StateData). kept_place s k i) loaded.state ∙ kept_place-forgets loaded.text k i ∙ ap (λ (s : StateData). kept_place s k i) (text_is l journal loaded)

number_text : (l : Loaded) (journal : List ℕ) (k i : ℕ) → IsLoaded l journal → kept_at l.state k i ≡ kept_at (state_at journal) k i
number_text l journal k i loaded =
    ap (λ (s : StateData). kept_at s k i) loaded.state ∙ kept_at-forgets loaded.text k i ∙ ap (λ (s : StateData). kept_at s k i) (text_is l journal loaded)

pub count_text : (l : Loaded) (journal : List ℕ) (k : ℕ) → IsLoaded l journal → k ≡ length l.state.stack → kept_count l.state k ≡ length (newest_at journal)
count_text l journal k loaded is =
    ap (λ (s : StateData). kept_count s k) loaded.state ∙ kept_count-forgets loaded.text k ∙ ap (λ (s : StateData). kept_count s k) (text_is l journal loaded)
    ∙ count_newest (state_at journal) k (is ∙ depth_text l journal loaded)

from_place : (o : Option Kept) (place : PagePlace) → option_map place_of o ≡ Some place → (k : Kept) × (o ≡ Some k) × (place_of k ≡ place)
from_place None place e = absurd (let h : None ≡ Some place = e in cc)
from_place (Some k) place e = let h : Some (place_of k) ≡ Some place = e in (k, refl, cc)

from_number : (o : Option Kept) (k : Kept) (n line : ℕ) → o ≡ Some k → option_map {U = ℕ × ℕ} (λ kept. (kept.page, kept.line)) o ≡ Some (n, line) → k.page ≡ n
from_number o k n line is e =
    let h : Some (k.page, k.line) ≡ Some (n, line) = sym (ap (λ (p : Option Kept). option_map {U = ℕ × ℕ} (λ kept. (kept.page, kept.line)) p) is) ∙ e in
    let pair : (k.page, k.line) ≡ (n, line) = cc in
    ap (λ (p : ℕ × ℕ). p.0) pair

pub kept_in_text : (l : Loaded) (journal : List ℕ) (newest i n line : ℕ) (place : PagePlace) → IsLoaded l journal → kept_place l.state newest i ≡ Some place → kept_at l.state newest i ≡ Some (n, line)
    → (kept : Kept) × (kept_entry (state_at journal) newest i ≡ Some kept) × (place_of kept ≡ place) × (kept.page ≡ n)
kept_in_text l journal newest i n line place loaded place_is number_is =
    let found = from_place (kept_entry (state_at journal) newest i) place (sym (place_text l journal newest i loaded) ∙ place_is) in
    (found.0, found.1, found.2, from_number (kept_entry (state_at journal) newest i) found.0 n line found.1 (sym (number_text l journal newest i loaded) ∙ number_is))

-- the i-th of some lists joined
pub lines_next : (f : Kept → List Entry) (pages : List Kept) (i : ℕ) (k : Kept) → slice_get pages i ≡ Some k → flat_map f (take (suc i) pages) ≡ flat_map f (take i pages) ++ f k
lines_next f [] i k is = absurd (let h : None ≡ Some k = is in cc)
lines_next f (x ∷ pages) zero k is =
    let some : Some x ≡ Some k = is in
    let same : x ≡ k = cc in
    append-nil (f x) ∙ ap f same
lines_next f (x ∷ pages) (suc i) k is = ap (λ es. f x ++ es) (lines_next f pages i k is) ∙ sym (append_assoc (f x) (flat_map f (take i pages)) (f k))

pub lines_all : (f : Kept → List Entry) (pages : List Kept) (i : ℕ) (k : Kept) → slice_get pages i ≡ Some k → flat_map f pages ≡ flat_map f (take i pages) ++ (f k ++ flat_map f (drop (suc i) pages))
lines_all f [] i k is = absurd (let h : None ≡ Some k = is in cc)
lines_all f (x ∷ pages) zero k is =
    let some : Some x ≡ Some k = is in
    let same : x ≡ k = cc in
    ap (λ (y : Kept). f y ++ flat_map f pages) same
lines_all f (x ∷ pages) (suc i) k is =
    ap (λ es. f x ++ es) (lines_all f pages i k is) ∙ sym (append_assoc (f x) (flat_map f (take i pages)) (f k ++ flat_map f (drop (suc i) pages)))

-- the i-th page is put back after those before it
pub pages_next : (chip : ChipData) (pages : List Kept) (flash : List ℕ) (i : ℕ) (k : Kept) → slice_get pages i ≡ Some k
    → with_pages chip (take (suc i) pages) flash ≡ with_page chip k.page k.bytes (with_pages chip (take i pages) flash)
pages_next chip [] flash i k is = absurd (let h : None ≡ Some k = is in cc)
pages_next chip (x ∷ pages) flash zero k is =
    let some : Some x ≡ Some k = is in
    let same : x ≡ k = cc in
    ap (λ (y : Kept). with_page chip y.page y.bytes flash) same
pages_next chip (x ∷ pages) flash (suc i) k is = pages_next chip pages (with_page chip x.page x.bytes flash) i k is

pub any_at : (pages : List Kept) (i : ℕ) (k : Kept) → slice_get pages i ≡ Some k → list_any (λ x. x.page == k.page) pages ≡ true
any_at [] i k is = absurd (let h : None ≡ Some k = is in cc)
any_at (x ∷ pages) zero k is =
    let some : Some x ≡ Some k = is in
    let same : x ≡ k = cc in
    ap (λ (b : Bool). b || list_any (λ y. y.page == k.page) pages) (eq-eqb x.page k.page (ap (λ (y : Kept). y.page) same))
any_at (x ∷ pages) (suc i) k is = either (x.page == k.page) (list_any (λ y. y.page == k.page) pages) (any_at pages i k is)
  where
    either : (a b : Bool) → b ≡ true → (a || b) ≡ true
    either true b h = refl
    either false b h = h

-- and holds until then what it held at the start, as each page is kept once
pub page_until : (chip : ChipData) (pages : List Kept) (flash : List ℕ) (i : ℕ) (k : Kept) → PagesOnce pages → AllKeptFit chip pages → length flash ≡ flash_size chip → slice_get pages i ≡ Some k
    → page_of chip (with_pages chip (take i pages) flash) k.page ≡ page_of chip flash k.page
page_until chip [] flash i k once fits size is = absurd (let h : None ≡ Some k = is in cc)
page_until chip (x ∷ pages) flash zero k once fits size is = refl
page_until chip (x ∷ pages) flash (suc i) k once fits size is =
    let within = page_within chip.sizes x.page in
    let x_size : length x.bytes ≡ page_size chip x.page = fits-size chip x fits.0 in
    let fit : page_offset chip x.page + length x.bytes ≤ length flash = omega (arith, within, x_size, size) in
    let long : length (with_page chip x.page x.bytes flash) ≡ flash_size chip = length-with_bytes (page_offset chip x.page) x.bytes flash fit ∙ size in
    let other : k.page ≢ x.page = λ e. let P : ℕ → Type 0 = λ m. list_any (λ y. y.page == m) pages ≡ true in false≢true (sym once.0 ∙ subst P e (any_at pages i k is)) in
    page_until chip pages (with_page chip x.page x.bytes flash) i k once.1 fits.1 long is
    ∙ other_page chip flash x.bytes (page_offset chip x.page) k.page x.page size (omega arith) (omega (arith, x_size)) (fits-exists chip k (fits_line chip pages i k fits.1 is)) other

-- the lines of a page go by what it holds
pub lines_by : (chip : ChipData) (old new : List ℕ) (kept : Kept) → page_of chip new kept.page ≡ page_of chip old kept.page → return_entries chip new kept ≡ return_entries chip old kept
lines_by chip old new kept same = ap (λ (held : List ℕ). if bytes_eq held kept.bytes then [] else rewrite_entries chip kept.page kept.bytes) same
