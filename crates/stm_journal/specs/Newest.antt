-- The newest segment as each call leaves it: what a caller has to know to make the next call.
use Rattle.std.specs.Prelude.{◌≡◌, ◌≢◌, ℕ, ◌+◌, max, true, false, List, [], ◌∷◌, ◌++◌, length, map}
use Rattle.std.specs.Prelude.{fold, drop, Some, None, option_map, IsTrue}
use Rattle.stm_wire.specs.Chip.{ChipData}
use Rattle.stm_wire.specs.declared.intent.Intent.{Intent}
use Rattle.stm_journal.specs.declared.kept.Kept.{Kept}
use Rattle.stm_journal.specs.States.{StateData, SegmentData, newest_is_open, newest_keeps}
use Rattle.stm_journal.specs.States.{newest_may_keep, is_unfinished, intent_of, kept_at, page_bytes}
use Rattle.stm_journal.specs.States.{on_newest, keeping, fresh_segment, names_other_board}
use Rattle.stm_journal.specs.KeptPlaces.{kept_entry, kept_count}
use Rattle.stm_journal.specs.Flashes.{flashes_before_segments}

abbrev pub pages_of_newest : List SegmentData → List ℕ
pages_of_newest [] = []
pages_of_newest (segment ∷ below) = map (λ k. k.page) segment.pages

-- the pages that the newest segment keeps, in the order of their lines
abbrev pub newest_pages : StateData → List ℕ
newest_pages s = pages_of_newest s.stack

-- the number behind the greatest page that the newest segment keeps, and 0 where it keeps none
abbrev pub next_page : StateData → ℕ
next_page s = fold (λ next n. max next (n + 1)) 0 (newest_pages s)

-- the pages of each segment, the newest first
abbrev pub pages_of_segments : List SegmentData → List (List Kept)
pages_of_segments stack = map (λ segment. segment.pages) stack

-- The same header and as many segments, which keep what they kept: at most the stage
-- of the newest is another.
pub record KeepsSame (old new : StateData) : Type 0 where
  pub header : new.header ≡ old.header
  pub depth : length new.stack ≡ length old.stack
  pub same : pages_of_segments new.stack ≡ pages_of_segments old.stack
  pub entry : (k i : ℕ) → kept_entry new k i ≡ kept_entry old k i
  pub count : (k : ℕ) → kept_count new k ≡ kept_count old k
  pub below : drop 1 new.stack ≡ drop 1 old.stack
  pub pages : newest_pages new ≡ newest_pages old
  pub next : next_page new ≡ next_page old
  pub keeps : (n : ℕ) → newest_keeps n new ≡ newest_keeps n old
  pub kept : (k i : ℕ) → kept_at new k i ≡ kept_at old k i
  pub bytes : (k n : ℕ) → page_bytes new k n ≡ page_bytes old k n
  pub flashes : (chip : ChipData) (flash : List ℕ)
      → flashes_before_segments chip new.stack flash ≡ flashes_before_segments chip old.stack flash

-- A segment has begun above the others, for the device with this id and unique id.
pub record HasBegun (id : ℕ) (unique : List ℕ) (old new : StateData) : Type 0 where
  pub named : option_map (λ header. header.id) new.header ≡ Some id
  pub board : names_other_board unique new ≡ false
  pub stack : new.stack ≡ fresh_segment ∷ old.stack
  pub depth : length new.stack ≡ length old.stack + 1
  pub is_open : IsTrue (newest_is_open new)
  pub pages : newest_pages new ≡ []
  pub next : next_page new ≡ 0
  pub intent : intent_of new ≡ None
  pub unfinished : is_unfinished new ≡ true

-- The newest segment, which is open, has page n with these bytes, the pages
-- that it had, and no others.
pub record HasKept (n : ℕ) (bytes : List ℕ) (old new : StateData) : Type 0 where
  pub header : new.header ≡ old.header
  pub depth : length new.stack ≡ length old.stack
  pub kept : Kept
  pub page : kept.page ≡ n
  pub held : kept.bytes ≡ bytes
  pub stack : new.stack ≡ on_newest (keeping kept) old.stack
  pub pages : newest_pages new ≡ newest_pages old ++ n ∷ []
  pub is_open : IsTrue (newest_is_open new)
  pub keeps : IsTrue (newest_keeps n new)
  pub still : (m : ℕ) → IsTrue (newest_keeps m old) → IsTrue (newest_keeps m new)
  pub free : (m : ℕ) → m ≢ n → newest_may_keep m new ≡ newest_may_keep m old
  pub next : next_page new ≡ max (next_page old) (n + 1)
  pub found : page_bytes new (length new.stack) n ≡ Some bytes
  pub intent : intent_of new ≡ intent_of old

-- The newest segment has this intent, which is on page n, and keeps what it kept, that page too. It
-- is open if it was, and otherwise it is being undone.
pub record HasIntended (n : ℕ) (intent : Intent) (old new : StateData) : Type 0 where
  pub same : KeepsSame old new
  pub is_open : newest_is_open new ≡ newest_is_open old
  pub keeps : IsTrue (newest_keeps n new)
  pub newest : intent_of new ≡ Some intent
  pub unfinished : is_unfinished new ≡ true

-- The newest segment has ended and keeps what it kept.
pub record HasEnded (old new : StateData) : Type 0 where
  pub same : KeepsSame old new
  pub finished : is_unfinished new ≡ false
  pub intent : intent_of new ≡ None

-- The newest segment is taken off, and all that are left have ended.
pub record HasUndone (old new : StateData) : Type 0 where
  pub header : new.header ≡ old.header
  pub stack : new.stack ≡ drop 1 old.stack
  pub depth : length old.stack ≡ length new.stack + 1
  pub finished : is_unfinished new ≡ false
  pub intent : intent_of new ≡ None
