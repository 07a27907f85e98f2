-- What `log --check` tells of a journal, as a text.
use Rattle.std.specs.Prelude.{◌≡◌, ℕ, ◌<◌, ◌≤◌, List, [], ◌∷◌, ◌++◌, codes, count_by, decimal}
use Rattle.std.specs.Prelude.{length, take, drop}
use Rattle.std.specs.Int.{to_be_bytes, w32}
use Rattle.std.specs.List.{flat_map, range_with_len}
use Rattle.std.specs.Option.{option_map_or}
use Rattle.hex.specs.Hex.{encode_upper}
use Rattle.stm_wire.specs.Rig.{RigState, StaysHonest}
use Rattle.stm_journal.specs.declared.fault.JournalFault.{JournalFault}
use Rattle.stm_journal.specs.declared.fault.JournalFault.TheVariants.{File, Bad, OtherDevice}
use Rattle.stm_journal.specs.declared.fault.JournalFault.TheVariants.{OtherBoard, Memory}
use Rattle.stm_journal.specs.declared.kept.Kept.{Kept}
use Rattle.stm_journal.specs.InMemory.{forget_state}
use Rattle.stm_journal.specs.Journals.{IsLoaded, Loaded, bad, good, journal_of}
use Rattle.stm_journal.specs.KeptPlaces.{kept_count, kept_entry}
use Rattle.stm_journal.specs.States.{StateData, depth}
use Rattle.stm_journal.specs.Text.{is_void, text_of}
use Rattle.stm_files.specs.Logging.{logged_device, end_text, logged_line}
use Rattle.stm_files.specs.PageSum.{page_sum}
use Rattle.stm_files.specs.Tally.{IsTallyOf}
use Rattle.stm_files.specs.declared.tally.Tally.{Tally}

-- a page: its number, the number of its line, how many bytes it has, and their CRC
abbrev pub page_line : ℕ → ℕ → ℕ → ℕ → List ℕ
page_line page line size sum =
    codes "page " ++ decimal page ++ (codes ", line " ++ decimal line)
    ++ (codes ", " ++ decimal size) ++ (codes " bytes, crc " ++ encode_upper (to_be_bytes w32 sum))
    ++ 10 ∷ []

abbrev pub kept_page_line : Kept → List ℕ
kept_page_line kept = page_line kept.page kept.line (length kept.bytes) (page_sum kept.bytes)

-- the i-th page line of segment k, from 0
abbrev pub page_text : StateData → ℕ → ℕ → List ℕ
page_text s k i = option_map_or kept_page_line (kept_entry s k i) []

-- all pages of segment k
abbrev pub checked_pages : StateData → ℕ → List ℕ
checked_pages s k = flat_map (page_text s k) (range_with_len 0 (kept_count s k))

-- segment k as `log` tells it, and its pages
abbrev pub checked_segment : StateData → ℕ → List ℕ
checked_segment s k = logged_line (forget_state s) k ++ checked_pages s k

-- lines, those of them that are void, and bytes behind the last
abbrev pub tally_line : ℕ → ℕ → ℕ → List ℕ
tally_line lines voids tail =
    decimal lines ++ (codes " lines, " ++ decimal voids)
    ++ (codes " of them void, " ++ decimal tail) ++ codes " bytes behind them" ++ 10 ∷ []

abbrev pub tally_text : List ℕ → List ℕ
tally_text bytes =
    tally_line (length (text_of bytes).lines) (count_by is_void (text_of bytes).lines)
    (length (text_of bytes).tail)

-- what `log` tells, with a line for each page behind that of its segment, and a line of the text's
-- lines before the last
abbrev pub check_text : List ℕ → StateData → List ℕ
check_text bytes s =
    ((logged_device (forget_state s)
    ++ flat_map (checked_segment s) (range_with_len 1 (depth (forget_state s))))
    ++ tally_text bytes) ++ end_text (forget_state s)

-- these bytes come to a state, and this text tells it
pub record TellsState (bytes text : List ℕ) : Type 0 where
  pub state : StateData
  pub means : journal_of bytes ≡ good state
  pub told : text ≡ check_text bytes state

-- the number of a line is told only where that line is the first bad one
abbrev pub IsCheckFault : List ℕ → JournalFault → Type 0
IsCheckFault bytes File = Unit {0}
IsCheckFault bytes (Bad line) = journal_of bytes ≡ bad line
IsCheckFault bytes OtherDevice = ⊥
IsCheckFault bytes OtherBoard = ⊥
IsCheckFault bytes Memory = Unit {0}

-- an honest Rig's journal has these bytes, which come to this state and to this journal in memory
pub record IsTied (bytes : List ℕ) (s : StateData) (l : Loaded) (rig : RigState) : Type 0 where
  pub honest : rig.is_honest
  pub journal : rig.journal ≡ bytes
  pub means : journal_of bytes ≡ good s
  pub loaded : IsLoaded l bytes
  pub state : l.state ≡ forget_state s

-- bytes of an honest Rig's journal were read, from a place on; none only behind the last
pub record ReadsJournal (at : ℕ) (before after : List ℕ) (n : ℕ) (old new : RigState) : Type 0 where
  pub stays : StaysHonest old new
  pub bytes : take n after ≡ take n (drop at old.journal)
  pub more : n ≡ 0 → at < length old.journal → length before ≡ 0

-- an honest Rig's journal was read up to a place, and so far it has these lines
pub record IsCounted (at : ℕ) (t : Tally) (old new : RigState) : Type 0 where
  pub stays : StaysHonest old new
  pub within : at ≤ length old.journal
  pub tally : IsTallyOf (take at old.journal) t
