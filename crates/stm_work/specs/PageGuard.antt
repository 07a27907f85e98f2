-- What the journal says that pages were left with, and when an undo may erase one.
use Rattle.std.specs.Prelude.{◌≡◌, ℕ, ◌-◌, ◌==◌, Bool, true, false, if◌then◌else◌, List, length, drop}
use Rattle.std.specs.List.{list_any}
use Rattle.std.specs.Prelude.{fold, min, replicate, slice_get, Option, None, Some}
use Rattle.stm_image.specs.Lay.{lay}
use Rattle.stm_files.specs.PageSum.{page_sum}
use Rattle.stm_work.specs.declared.page_guard.Doings.{Doings}
use Rattle.stm_work.specs.declared.content.Content.TheVariants.{Placed, AtBase}
use Rattle.stm_work.specs.declared.page_guard.Doings.TheVariants.{Nothing, Erases, ErasesAll, Writes, Undoes}
use Rattle.stm_work.specs.declared.page_guard.PageGuard.{PageGuard}
use Rattle.stm_work.specs.declared.page_reads.PageReads.{PageReads}
use Rattle.stm_work.specs.declared.kept_pages.KeptCount.{KeptCount}
use Rattle.stm_work.specs.declared.kept_pages.KeptPages.{KeptPages}
use Rattle.stm_work.specs.declared.kept_pages.Left.{Left}
use Rattle.stm_work.specs.declared.kept_pages.LeftPage.{LeftPage}
use Rattle.stm_work.specs.declared.kept_pages.Reading.{Reading}
use Rattle.stm_work.specs.declared.kept_pages.Reading.TheVariants.{UpTo, Whole, Lost}

-- where what is told of the newest segment's pages begins
abbrev pub newest_from : Option KeptCount → ℕ → ℕ
newest_from None all = all
newest_from (Some newest) all = min newest.left_below all

abbrev pub newest_left : KeptPages → ℕ
newest_left kept =
    newest_from (slice_get kept.counts.items (length kept.counts.items - 1)) (length kept.left.items)

-- what is said of a page, with one more said of some page
abbrev pub told_with : ℕ → Option Left → LeftPage → Option Left
told_with page told more = if more.page == page then more.left else told

-- what the last of these says of it
abbrev pub last_left : List LeftPage → ℕ → Option Left
last_left pages page = fold (told_with page) None pages

-- what a journal that was read whole says of it, of a segment that has ended
abbrev pub told_in : Reading → Bool → Option Left → Option Left
told_in Whole true left = left
told_in Whole false left = None
told_in (UpTo at) ended left = None
told_in Lost ended left = None

abbrev pub told_left : KeptPages → ℕ → Option Left
told_left kept page =
    told_in kept.reading kept.is_ended (last_left (drop (newest_left kept) kept.left.items) page)

-- the last bytes that were read, so many, have this CRC
pub record ReadsAs (reads : PageReads) (left : Left) : Type 0 where
  pub sum : page_sum (drop (length reads.held.items - left.size) reads.held.items) ≡ left.sum
  pub kept : reads.is_lost ≡ false

-- An undo by a journal that isn't trusted erases a page of which it is told what it was left with only
-- where the bytes that were read last are those.
abbrev pub IsAsLeft : PageGuard → ℕ → Type 0
IsAsLeft guard page =
    guard.does ≡ Undoes → (left : Left) → told_left guard.kept page ≡ Some left
    → ReadsAs guard.reads left

-- What a session leaves in a page that held these bytes, from an address on: erased bytes, if it is one
-- of those that are erased, or the page with the image laid over.
abbrev pub left_with : Doings → ℕ → ℕ → ℕ → List ℕ → List ℕ
left_with (Erases pages) page erased start held =
    if list_any (λ p. p == page) pages.items then replicate (length held) erased else held
left_with ErasesAll page erased start held = replicate (length held) erased
left_with (Writes (Placed image names)) page erased start held = lay image start held
left_with (Writes (AtBase raw names)) page erased start held = held
left_with Nothing page erased start held = held
left_with Undoes page erased start held = held
