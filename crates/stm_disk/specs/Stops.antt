-- A crash of the PC in an append to a journal, as a stop inside that append.
use Rattle.std.specs.Prelude.{◌≡◌, ℕ, List, ◌++◌, take}
use Rattle.stm_journal.specs.declared.entry.Entry.{Entry}
use Rattle.stm_journal.specs.States.{StateData}
use Rattle.stm_journal.specs.Text.{text_of}
use Rattle.stm_journal.specs.Journals.{Loaded, IsLoaded, journal_of, good, added_bytes}
use Rattle.stm_journal.specs.Beginnings.{EntriesLead, AllAllowed, AllPrintable}
use Rattle.stm_disk.specs.Lines.{LeftByAdding}

-- What a crash leaves has the whole lines, and comes to the journal, of what a stop leaves that has
-- added a beginning of the bytes.
abbrev pub CrashesAreStops : Type 0
CrashesAreStops = (old bytes left : List ℕ) → LeftByAdding old bytes left
    → (n : ℕ) × ((text_of left).lines ≡ (text_of (old ++ take n bytes)).lines)
    × (journal_of left ≡ journal_of (old ++ take n bytes))

-- Where a crash comes into the append of entries that are allowed, the journal is good, and a
-- beginning of the entries is added to its state.
abbrev pub CrashesAreGood : Type 0
CrashesAreGood =
    (l : Loaded) (journal left : List ℕ) (s : StateData) (entries : List Entry)
    → IsLoaded l journal → journal_of journal ≡ good s
    → AllAllowed entries s → AllPrintable entries
    → LeftByAdding journal (added_bytes l.is_torn entries) left
    → (s2 : StateData) × (journal_of left ≡ good s2) × EntriesLead entries s s2
