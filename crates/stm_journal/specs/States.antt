-- The segments of a journal and what an entry makes of them.
use Rattle.std.specs.Prelude.{◌≡◌, ℕ, ◌+◌, ◌-◌, ◌*◌, ◌<◌, ◌≤◌, Bool, true, false, not, ◌&&◌, ◌==◌}
use Rattle.std.specs.Prelude.{nat_lt, nat_le, if◌then◌else◌, List, [], ◌∷◌, ◌++◌, length, drop}
use Rattle.std.specs.Prelude.{reverse, Option, Some, None, option_map, option_and_then, is_none}
use Rattle.std.specs.Prelude.{is_some, IsSome, slice_get, bytes_eq}
use Rattle.std.specs.List.{list_any, find}
use Rattle.stm_wire.specs.declared.intent.Intent.{Intent}
use Rattle.stm_wire.specs.declared.intent.Intent.TheVariants.{Erase, Program}
use Rattle.stm_journal.specs.declared.stage.Stage.{Stage}
use Rattle.stm_journal.specs.declared.stage.Stage.TheVariants.{Open, Ended, Returning}
use Rattle.stm_journal.specs.declared.kept.Kept.{Kept}
use Rattle.stm_journal.specs.declared.header.JournalHeader.{JournalHeader}
use Rattle.stm_journal.specs.declared.entry.Entry.{Entry}
use Rattle.stm_journal.specs.declared.entry.Entry.TheVariants.{Names, Opens, Keeps, Erases}
use Rattle.stm_journal.specs.declared.entry.Entry.TheVariants.{Programs, Ends, Undoes}

-- one Write or Erase: the pages that it keeps, in the order of their lines
pub record SegmentData : Type 0 where
  pub pages : List Kept
  pub stage : Stage

-- what the lines so far come to; the newest segment is the first of the stack
pub record StateData : Type 0 where
  pub header : Option JournalHeader
  pub stack : List SegmentData

-- what a journal without a line comes to: no header, and no segment
abbrev pub empty_state : StateData
empty_state = record { header = None; stack = [] }

-- the newest segment, and those below it with the newest last
abbrev pub stack_of : Option SegmentData → List SegmentData → List SegmentData
stack_of None below = []
stack_of (Some newest) below = newest ∷ reverse below

abbrev pub IsStacked : Option SegmentData → List SegmentData → Type 0
IsStacked None below = below ≡ []
IsStacked (Some newest) below = Unit {0}

abbrev pub depth : StateData → ℕ
depth s = length s.stack

-- the segment has ended, and isn't being taken back
abbrev pub is_ended_stage : Stage → Bool
is_ended_stage (Open i) = false
is_ended_stage Ended = true
is_ended_stage (Returning i) = false

-- the segment hasn't ended yet
abbrev pub is_open_stage : Stage → Bool
is_open_stage (Open i) = true
is_open_stage Ended = false
is_open_stage (Returning i) = false

-- the newest `erase` or `program` line of a segment that hasn't ended
abbrev pub intent_at : Stage → Option Intent
intent_at (Open i) = i
intent_at Ended = None
intent_at (Returning i) = Some i

-- the segment keeps page n
abbrev pub keeps : SegmentData → ℕ → Bool
keeps segment n = list_any (λ k. k.page == n) segment.pages

-- the segment is open and lacks this page
abbrev pub may_keep : ℕ → SegmentData → Bool
may_keep n segment = is_open_stage segment.stage && not (keeps segment n)

-- the newest segment, seen through a test that no segment fails
abbrev pub newest_has : (SegmentData → Bool) → List SegmentData → Bool
newest_has test [] = false
newest_has test (segment ∷ below) = test segment

-- the intent of the newest segment, where there is one that has an intent
abbrev pub newest_intent : List SegmentData → Option Intent
newest_intent [] = None
newest_intent (segment ∷ below) = intent_at segment.stage

-- the newest segment is open or is being undone
abbrev pub is_unfinished : StateData → Bool
is_unfinished s = newest_has (λ segment. not (is_ended_stage segment.stage)) s.stack

-- the journal's intent, which is that of its newest segment
abbrev pub intent_of : StateData → Option Intent
intent_of s = newest_intent s.stack

-- the newest segment is open
abbrev pub newest_is_open : StateData → Bool
newest_is_open s = newest_has (λ segment. is_open_stage segment.stage) s.stack

-- the newest segment keeps this page
abbrev pub newest_keeps : ℕ → StateData → Bool
newest_keeps n s = newest_has (λ segment. keeps segment n) s.stack

-- the newest segment is open and lacks this page
abbrev pub newest_may_keep : ℕ → StateData → Bool
newest_may_keep n s = newest_has (may_keep n) s.stack

-- an intent on an open segment leaves it open; any other segment is being undone from then on
abbrev pub stage_with : Intent → Stage → Stage
stage_with i (Open old) = Open (Some i)
stage_with i Ended = Returning i
stage_with i (Returning old) = Returning i

-- the line rules: which entry may stand after these lines
abbrev pub allows : StateData → Entry → Bool
allows s (Names version id unique) = is_none s.header
allows s (Opens k) = is_some s.header && not (is_unfinished s) && (k == length s.stack + 1)
allows s (Keeps n bytes) = is_some s.header && newest_may_keep n s
allows s (Erases n) = is_some s.header && newest_keeps n s
allows s (Programs n) = is_some s.header && newest_keeps n s
allows s (Ends k) = is_some s.header && newest_is_open s && (k == length s.stack)
allows s (Undoes k) = is_some s.header && nat_lt 0 (length s.stack) && (k == length s.stack)

-- the header names another device
abbrev pub names_other : ℕ → StateData → Bool
names_other id s =
    elim s.header as (λ _. Bool) [ None ↦ false | Some header ↦ not (header.id == id) ]

-- the unique id that a header of version 3 has
abbrev pub header_board : JournalHeader → Option (List ℕ)
header_board header = if header.version == 3 then Some header.unique else None

-- the board that the header names, by its unique id
abbrev pub board_of : StateData → Option (List ℕ)
board_of s = option_and_then header_board s.header

-- this board is named, and isn't the one with this unique id
abbrev pub is_other_board : List ℕ → Option (List ℕ) → Bool
is_other_board unique None = false
is_other_board unique (Some board) = not (bytes_eq board unique)

-- the header names another board
abbrev pub names_other_board : List ℕ → StateData → Bool
names_other_board unique s = is_other_board unique (board_of s)

-- the stack with this change of its newest segment; an empty stack stays as it is
abbrev pub on_newest : (SegmentData → SegmentData) → List SegmentData → List SegmentData
on_newest change [] = []
on_newest change (segment ∷ below) = change segment ∷ below

-- a segment that has just begun: it keeps no page, and has no intent
abbrev pub fresh_segment : SegmentData
fresh_segment = record { pages = []; stage = Open None }

-- a page as it is kept: its bytes are the last field of its line, two digits a byte, so the first
-- digit stands that far before its LF
abbrev pub kept_in : ℕ → ℕ → ℕ → List ℕ → Kept
kept_in line ends n bytes =
    record { page = n; bytes = bytes; line = line; at = ends - 2 * length bytes }

-- the segment with one page more that it keeps, the last of them
abbrev pub keeping : Kept → SegmentData → SegmentData
keeping kept segment = record segment { pages = segment.pages ++ kept ∷ [] }

-- the segment behind an `erase` or `program` line with this intent
abbrev pub intending : Intent → SegmentData → SegmentData
intending i segment = record segment { stage = stage_with i segment.stage }

-- the segment behind its `end` line
abbrev pub ended_segment : SegmentData → SegmentData
ended_segment segment = record segment { stage = Ended }

-- what an entry makes of the state, where it is allowed; it stands in the line with this number,
-- whose LF is at this place
abbrev pub after_entry : ℕ → ℕ → StateData → Entry → StateData
after_entry line ends s (Names version id unique) =
    record s {
      header = Some (record { version = version; id = id; unique = unique; line = line });
    }
after_entry line ends s (Opens k) = record s { stack = fresh_segment ∷ s.stack }
after_entry line ends s (Keeps n bytes) =
    record s { stack = on_newest (keeping (kept_in line ends n bytes)) s.stack }
after_entry line ends s (Erases n) = record s { stack = on_newest (intending (Erase n)) s.stack }
after_entry line ends s (Programs n) =
    record s { stack = on_newest (intending (Program n)) s.stack }
after_entry line ends s (Ends k) = record s { stack = on_newest ended_segment s.stack }
after_entry line ends s (Undoes k) = record s { stack = drop 1 s.stack }

-- segment k, counted from the oldest, which is 1
abbrev pub segment_of : StateData → ℕ → Option SegmentData
segment_of s k =
    if nat_le 1 k && nat_le k (length s.stack) then slice_get s.stack (length s.stack - k) else None

-- the bytes that segment k keeps of page n
abbrev pub page_bytes : StateData → ℕ → ℕ → Option (List ℕ)
page_bytes s k n =
    option_map (λ kept. kept.bytes)
    (option_and_then (λ segment. find (λ kept. kept.page == n) segment.pages) (segment_of s k))

-- the page and the line number of the i-th page line of segment k, from 0
abbrev pub kept_at : StateData → ℕ → ℕ → Option (ℕ × ℕ)
kept_at s k i =
    option_map (λ kept. (kept.page, kept.line))
    (option_and_then (λ segment. slice_get segment.pages i) (segment_of s k))

-- no page of these is n
abbrev pub LacksPage : ℕ → List Kept → Type 0
LacksPage n pages = list_any (λ k. k.page == n) pages ≡ false

-- each page stands once
abbrev pub PagesOnce : List Kept → Type 0
PagesOnce [] = Unit {0}
PagesOnce (k ∷ pages) = LacksPage k.page pages × PagesOnce pages

abbrev pub AllOnce : List SegmentData → Type 0
AllOnce [] = Unit {0}
AllOnce (segment ∷ below) = PagesOnce segment.pages × AllOnce below

abbrev pub AllEnded : List SegmentData → Type 0
AllEnded [] = Unit {0}
AllEnded (segment ∷ below) = (segment.stage ≡ Ended) × AllEnded below

abbrev pub EndedBelow : List SegmentData → Type 0
EndedBelow [] = Unit {0}
EndedBelow (segment ∷ below) = AllEnded below

-- the page that an intent is about
abbrev pub intent_page : Intent → ℕ
intent_page (Erase n) = n
intent_page (Program n) = n

-- the newest segment keeps the page of its intent
abbrev pub IntentIsKept : StateData → Type 0
IntentIsKept s = (i : Intent) → intent_of s ≡ Some i → newest_keeps (intent_page i) s ≡ true

-- what is so of every journal without a bad line
pub record IsSound (s : StateData) : Type 0 where
  pub depth : length s.stack ≤ 65535
  pub named : 0 < length s.stack → IsSome s.header
  pub ended : EndedBelow s.stack
  pub once : AllOnce s.stack
  pub intended : IntentIsKept s
