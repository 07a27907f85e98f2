-- The pages at work: that of an unfinished segment's intent, and behind page 1 page 257, which the
-- byte that settles a stopped erase of page 1 may erase. An erase or a write of theirs may have been
-- cut, so that they can read right once and wrong later: they aren't believed, whatever is read.
use Rattle.std.specs.Prelude.{ℕ, Bool, ◌==◌, ◌&&◌, if◌then◌else◌, List, [], ◌∷◌, fold, filter_map}
use Rattle.std.specs.Prelude.{Option, Some, None}
use Rattle.std.specs.List.{find}
use Rattle.stm_wire.specs.declared.intent.Intent.{Intent}
use Rattle.stm_wire.specs.Chip.{ChipData, with_page}
use Rattle.stm_journal.specs.declared.kept.Kept.{Kept}
use Rattle.stm_journal.specs.States.{SegmentData, intent_page, keeps, newest_has, newest_intent}
use Rattle.stm_session.specs.Undoable.{newest_kept}

-- the page at work beside this one, where the segment keeps page 257 or doesn't
abbrev pub beside : ℕ → Bool → List ℕ
beside n keeps_257 = if n == 1 && keeps_257 then 257 ∷ [] else []

-- the page of the intent, and the one at work beside it; without an intent none
abbrev pub pages_of_intent : Option Intent → Bool → List ℕ
pages_of_intent None keeps_257 = []
pages_of_intent (Some intent) keeps_257 = intent_page intent ∷ beside (intent_page intent) keeps_257

-- the pages at work, in the order in which they are put back
abbrev pub pages_at_work : List SegmentData → List ℕ
pages_at_work stack =
    pages_of_intent (newest_intent stack) (newest_has (λ segment. keeps segment 257) stack)

-- what the newest segment keeps of these pages
abbrev pub kept_of : List SegmentData → List ℕ → List Kept
kept_of stack pages = filter_map (λ n. find (λ kept. kept.page == n) (newest_kept stack)) pages

-- and of the pages at work
abbrev pub kept_at_work : List SegmentData → List Kept
kept_at_work stack = kept_of stack (pages_at_work stack)

-- the flash with kept pages put back, one after another
abbrev pub with_work : ChipData → List Kept → List ℕ → List ℕ
with_work chip work flash = fold (λ f kept. with_page chip kept.page kept.bytes f) flash work
