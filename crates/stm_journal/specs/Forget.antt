-- A journal without its pages' bytes: the line rules need none of them.
use Rattle.std.specs.Prelude.{◌≡◌, ℕ, if◌then◌else◌, List}
use Rattle.stm_journal.specs.declared.entry.Entry.{Entry}
use Rattle.stm_journal.specs.States.{StateData, allows, after_entry}
use Rattle.stm_journal.specs.Journals.{JournalData, good, bad, after_line, after_said}
use Rattle.stm_journal.specs.InMemory.{forget_entry, forget_state}
use Rattle.stm_journal.specs.Summary.{Summary, summary_of, void_by, said_by}

abbrev pub forget_journal : JournalData → JournalData
forget_journal (good s) = good (forget_state s)
forget_journal (bad line) = bad line

-- the line rules need no bytes, and entries without bytes lead to states without bytes
abbrev pub EntriesForget : Type 0
EntriesForget = (line ends : ℕ) (s : StateData) (e : Entry)
    → (allows (forget_state s) (forget_entry e) ≡ allows s e)
    × (after_entry line ends (forget_state s) (forget_entry e)
    ≡ forget_state (after_entry line ends s e))

-- what a line makes of a state in memory, by its summary
abbrev pub after_summary : ℕ → ℕ → JournalData → Summary → JournalData
after_summary line ends (bad first) y = bad first
after_summary line ends (good s) y =
    if void_by y then good s else after_said line ends s (said_by y)

-- the summary of a line does to the state in memory what the line does to the text's
abbrev pub SummaryFollows : Type 0
SummaryFollows = (line ends : ℕ) (j : JournalData) (text : List ℕ)
    → after_summary line ends (forget_journal j) (summary_of text)
    ≡ forget_journal (after_line line ends j text)
