-- What a journal's bytes come to, and how a journal in memory is tied to them.
use Rattle.std.specs.Prelude.{◌≡◌, ◌⊎◌, ℕ, ◌+◌, ◌-◌, ◌^◌, ◌<◌, ◌≤◌, min, Bool, true, false, nat_lt}
use Rattle.std.specs.Prelude.{if◌then◌else◌, List, [], ◌∷◌, ◌++◌, length, fold, flat_map, Option}
use Rattle.std.specs.Prelude.{Some, None, is_none, ◌==◌, IsTrue}
use Rattle.stm_journal.specs.declared.entry.Entry.{Entry}
use Rattle.stm_journal.specs.declared.entry.Entry.TheVariants.{Names, Opens, Keeps, Erases}
use Rattle.stm_journal.specs.declared.entry.Entry.TheVariants.{Programs, Ends, Undoes}
use Rattle.stm_journal.specs.declared.fault.JournalFault.{JournalFault}
use Rattle.stm_journal.specs.declared.fault.JournalFault.TheVariants.{File, Bad, OtherDevice}
use Rattle.stm_journal.specs.declared.fault.JournalFault.TheVariants.{OtherBoard, Memory}
use Rattle.hex.specs.Hex.{IsBytes}
use Rattle.stm_wire.specs.UniqueId.{is_unique_length}
use Rattle.stm_journal.specs.Text.{text_of, is_void}
use Rattle.stm_journal.specs.Greetings.{is_greeted}
use Rattle.stm_journal.specs.Entries.{entry_of, line_of, line_text}
use Rattle.stm_journal.specs.States.{StateData, empty_state, allows, after_entry, names_other}
use Rattle.stm_journal.specs.States.{names_other_board}
use Rattle.stm_journal.specs.InMemory.{forget_entry, forget_state}

-- every line that isn't void is allowed in its place, or the first that isn't has this number
pub data JournalData : Type 0 where
  good : StateData → JournalData
  bad : (line : ℕ) → JournalData

-- after a line that says this: it is bad where it says nothing, or what isn't allowed there
abbrev pub after_said : ℕ → ℕ → StateData → Option Entry → JournalData
after_said line ends s None = bad line
after_said line ends s (Some e) = if allows s e then good (after_entry line ends s e) else bad line

-- a void line counts as nothing; any other has to say something that is allowed there;
-- the first bad line decides
abbrev pub after_line : ℕ → ℕ → JournalData → List ℕ → JournalData
after_line line ends (bad first) text = bad first
after_line line ends (good s) text =
    if is_void text then good s else after_said line ends s (entry_of text)

-- what the lines so far come to, how many they are, and how many bytes they have with their LFs
pub record Reading : Type 0 where
  pub lines : ℕ
  pub size : ℕ
  pub journal : JournalData

-- one line more is read: this text, and the LF that ends it
abbrev pub read_line : Reading → List ℕ → Reading
read_line r text = record {
  lines = r.lines + 1;
  size = r.size + length text + 1;
  journal = after_line (r.lines + 1) (r.size + length text) r.journal text;
}

-- before the first line is read
abbrev pub start : Reading
start = record { lines = 0; size = 0; journal = good empty_state }

-- what these whole lines come to, read from the first to the last
abbrev pub reading_of : List (List ℕ) → Reading
reading_of lines = fold read_line start lines

-- what a journal's bytes come to
abbrev pub journal_of : List ℕ → JournalData
journal_of bytes = (reading_of (text_of bytes).lines).journal

-- a journal in memory: its state, with zeros for the bytes of pages, how many whole lines and how
-- many bytes it has, whether a torn tail stands, and whether the last whole line is a greeting
pub record Loaded : Type 0 where
  pub state : StateData
  pub lines : ℕ
  pub size : ℕ
  pub is_torn : Bool
  pub is_greeted : Bool

-- The tie between a journal in memory and a journal's bytes: these come to a state, which stands in
-- memory without the bytes of its pages, and with their places.
pub record IsLoaded (l : Loaded) (bytes : List ℕ) : Type 0 where
  pub text : StateData
  pub means : journal_of bytes ≡ good text
  pub state : l.state ≡ forget_state text
  pub lines : l.lines ≡ length (text_of bytes).lines
  pub size : l.size ≡ length bytes
  pub is_torn : l.is_torn ≡ nat_lt 0 (length (text_of bytes).tail)
  pub greeted : l.is_greeted ≡ is_greeted bytes

-- a number that stays at its top; no journal is that long
abbrev pub capped : ℕ → ℕ
capped n = min n (2 ^ 64 - 1)

-- `!` and LF make a torn tail a void line
abbrev pub mark : Bool → List ℕ
mark torn = if torn then 33 ∷ 10 ∷ [] else []

-- the bytes that an append of these entries adds
abbrev pub added_bytes : Bool → List Entry → List ℕ
added_bytes torn entries = mark torn ++ flat_map line_text entries

-- where the mark is followed by an entry, behind which no greeting is the last line
abbrev pub past_mark : Loaded → Loaded
past_mark l = if l.is_torn then record {
  state = l.state;
  lines = capped (l.lines + 1);
  size = capped (l.size + 2);
  is_torn = false;
  is_greeted = false;
} else l

abbrev pub past_entry : Loaded → Entry → Loaded
past_entry l e =
    record {
      state =
          after_entry (capped (l.lines + 1)) (capped (l.size + length (line_of e))) l.state
          (forget_entry e);
      lines = capped (l.lines + 1);
      size = capped (l.size + (length (line_of e) + 1));
      is_torn = false;
      is_greeted = false;
    }

-- a journal in memory after entries more
abbrev pub loaded_after : List Entry → Loaded → Loaded
loaded_after entries l = fold past_entry (past_mark l) entries

-- a new journal names its board where that is known
abbrev pub version_for : List ℕ → ℕ
version_for unique = if length unique == 0 then 2 else 3

-- what a new journal begins with
abbrev pub first_entries : ℕ → List ℕ → List Entry
first_entries id unique = Names (version_for unique) id unique ∷ Opens 1 ∷ []

-- what begins a segment: its line, and before it a header where there is none
abbrev pub begin_entries : ℕ → List ℕ → StateData → List Entry
begin_entries id unique s =
    if is_none s.header
    then Names (version_for unique) id unique ∷ Opens (length s.stack + 1) ∷ []
    else Opens (length s.stack + 1) ∷ []

-- a journal in memory of no lines
abbrev pub empty_loaded : Loaded
empty_loaded = record { state = empty_state; lines = 0; size = 0; is_torn = false; is_greeted = false }

-- a header is of version 1 or 2 and has no unique id, or of version 3 and has one
abbrev pub IsHeaderOf : ℕ → List ℕ → Type 0
IsHeaderOf version unique =
    (((version ≡ 1) ⊎ (version ≡ 2)) × (unique ≡ []))
    ⊎ ((version ≡ 3) × (IsTrue (is_unique_length (length unique)) × IsBytes unique))

-- an entry whose line reads back: numbers are at most 65,535, bytes are bytes, a page has some
abbrev pub IsPrintable : Entry → Type 0
IsPrintable (Names version id unique) = IsHeaderOf version unique × (id ≤ 65535)
IsPrintable (Opens k) = k ≤ 65535
IsPrintable (Keeps n bytes) = (n ≤ 65535) × ((0 < length bytes) × IsBytes bytes)
IsPrintable (Erases n) = n ≤ 65535
IsPrintable (Programs n) = n ≤ 65535
IsPrintable (Ends k) = k ≤ 65535
IsPrintable (Undoes k) = k ≤ 65535

-- without memory a journal in memory is as it was; of a fault of the file nothing is
-- said, and there is no other
abbrev pub LeavesLoaded : Loaded → Loaded → JournalFault → Type 0
LeavesLoaded l l2 File = Unit {0}
LeavesLoaded l l2 (Bad line) = ⊥
LeavesLoaded l l2 OtherDevice = ⊥
LeavesLoaded l l2 OtherBoard = ⊥
LeavesLoaded l l2 Memory = l2 ≡ l

-- the header, where there is one, names this device and no other board
abbrev pub NamesThis : ℕ → List ℕ → StateData → Type 0
NamesThis id unique s = (names_other id s ≡ false) × (names_other_board unique s ≡ false)

-- the same of a call that begins a segment, which a journal of another device or board refuses
abbrev pub LeavesUnbegun : ℕ → List ℕ → Loaded → Loaded → JournalFault → Type 0
LeavesUnbegun id unique l l2 File = NamesThis id unique l.state
LeavesUnbegun id unique l l2 (Bad line) = ⊥
LeavesUnbegun id unique l l2 OtherDevice = (names_other id l.state ≡ true) × (l2 ≡ l)
LeavesUnbegun id unique l l2 OtherBoard =
    (names_other id l.state ≡ false) × ((names_other_board unique l.state ≡ true) × (l2 ≡ l))
LeavesUnbegun id unique l l2 Memory = NamesThis id unique l.state × (l2 ≡ l)

-- a journal in memory and the bytes of an append that makes it so
pub record Prepares (entries : List Entry) (l l2 : Loaded) (bytes : List ℕ) : Type 0 where
  pub text : bytes ≡ added_bytes l.is_torn entries
  pub after : l2 ≡ loaded_after entries l
