-- A journal's text as its lines, and what calls add to it.
use Rattle.std.specs.Prelude.{◌≡◌, ℕ, List, [], ◌∷◌, ◌++◌, length, map, take, nat_lt}
use Rattle.stm_wire.specs.Call.{Call, Put, Get, Append, Fetch}
use Rattle.stm_journal.specs.declared.entry.Entry.{Entry}
use Rattle.stm_journal.specs.Entries.{line_of, line_text}
use Rattle.stm_journal.specs.Journals.{Loaded}
use Rattle.stm_journal.specs.Newest.{pages_of_segments}
use Rattle.stm_session.specs.Order.{Step, Adds, Sends}
use Rattle.stm_any_line.specs.Segments.{segments_behind_lines}

-- The text is just these lines, each whole, and behind them a torn tail: the beginning of a line,
-- and perhaps the first byte of the mark that makes it void. A tail that was marked is no line.
pub data IsJournalText : List Entry → List ℕ → List ℕ → Type 0 where
  nothing : IsJournalText [] [] []
  line : (lines : List Entry) (entry : Entry) (text : List ℕ) → IsJournalText lines [] text
      → IsJournalText (lines ++ entry ∷ []) [] (text ++ line_text entry)
  torn : (lines : List Entry) (entry : Entry) (n : ℕ) (text : List ℕ) → IsJournalText lines [] text
      → IsJournalText lines (take n (line_of entry)) (text ++ take n (line_of entry))
  marked : (lines : List Entry) (tail text : List ℕ) → IsJournalText lines tail text
      → IsJournalText lines (tail ++ 33 ∷ []) (text ++ 33 ∷ [])
  void : (lines : List Entry) (tail text : List ℕ) → IsJournalText lines tail text
      → IsJournalText lines [] (text ++ 33 ∷ 10 ∷ [])

-- the lines that steps add
abbrev pub lines_of : List Step → List Entry
lines_of [] = []
lines_of (Adds entries ∷ steps) = entries ++ lines_of steps
lines_of (Sends turns ∷ steps) = lines_of steps

-- What was loaded is what these lines and this tail say: in each segment pages of the same numbers,
-- and whether a tail stands.
pub record IsLoadedAs (l : Loaded) (lines : List Entry) (tail : List ℕ) : Type 0 where
  pub pages : map (λ pages. map (λ kept. kept.page) pages) (pages_of_segments l.state.stack)
      ≡ map (λ pages. map (λ page. page.number) pages) (segments_behind_lines [] lines)
  pub is_torn : l.is_torn ≡ nat_lt 0 (length tail)

-- what was loaded is what the text says, of whatever lines it is made
abbrev pub LoadsText : Loaded → List ℕ → Type 0
LoadsText l text = (lines : List Entry) (tail : List ℕ) → IsJournalText lines tail text
    → IsLoadedAs l lines tail

-- The bytes that calls added to a journal: an append stands in the record with the bytes that it
-- added, one that failed with a beginning of those that it was given.
abbrev pub appended_in : List Call → List ℕ
appended_in [] = []
appended_in (Put byte ∷ calls) = appended_in calls
appended_in (Get answer ∷ calls) = appended_in calls
appended_in (Append bytes ∷ calls) = bytes ++ appended_in calls
appended_in (Fetch ∷ calls) = appended_in calls

-- A journal that is honest in a call, on a line that need not be: what was loaded is what the text
-- says, and the text behind the call is the text before it with just the bytes that were added.
pub record JournalIsHonest (l : Loaded) (before after : List ℕ) (calls : List Call) : Type 0 where
  pub loaded : LoadsText l before
  pub grown : after ≡ before ++ appended_in calls
