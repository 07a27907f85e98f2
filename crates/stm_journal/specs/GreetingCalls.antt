-- The call that adds a greeting, and what a greeting leaves.
use Rattle.std.specs.Prelude.{◌≡◌, ℕ, ◌+◌, Bool, true, false, not, ◌&&◌, ◌==◌, nat_lt, nat_le, List}
use Rattle.std.specs.Prelude.{[], ◌∷◌, ◌++◌, length, take, Result, OnOk}
use Rattle.stm_wire.specs.Rig.{RigState}
use Rattle.stm_journal.specs.declared.entry.Entry.{Entry}
use Rattle.stm_journal.specs.declared.fault.JournalFault.{JournalFault}
use Rattle.stm_journal.specs.Greetings.{greeting_line, is_greeted, may_greet}
use Rattle.stm_journal.specs.Text.{text_of}
use Rattle.stm_journal.specs.States.{StateData}
use Rattle.stm_journal.specs.Journals.{Loaded, IsLoaded, IsPrintable, journal_of, good, added_bytes}
use Rattle.stm_journal.specs.Journals.{capped}
use Rattle.stm_journal.specs.Calls.{AddsBytes}

-- the same of a journal in memory
abbrev pub allows_greeting : Loaded → Bool
allows_greeting l = not l.is_torn && not l.is_greeted

-- a journal in memory after a greeting, which counts as nothing
abbrev pub loaded_greeted : Loaded → Loaded
loaded_greeted l = record {
  state = l.state;
  lines = capped (l.lines + 1);
  size = capped (l.size + length greeting_line);
  is_torn = l.is_torn;
  is_greeted = true;
}

-- The line of a greeting is added to the journal that the one in memory is tied to, and the new
-- one in memory is tied to the result.
pub record AddsGreeting {T : Type 0} (l2 : Loaded) (old new : RigState)
    (result : Result T JournalFault) : Type 0 where
  pub bytes : AddsBytes greeting_line old new result
  pub loaded : OnOk result (IsLoaded l2 new.journal)

-- wherever the append of a greeting is stopped, the journal comes to what it came to; it is greeted
-- where the whole line stands, and may be greeted where nothing of it does
abbrev pub GreetingsCountAsNothing : Type 0
GreetingsCountAsNothing = (journal : List ℕ) (s : StateData) (n : ℕ)
    → journal_of journal ≡ good s → may_greet journal ≡ true
    → (journal_of (journal ++ take n greeting_line) ≡ good s)
    × ((is_greeted (journal ++ take n greeting_line) ≡ nat_le (length greeting_line) n)
    × (may_greet (journal ++ take n greeting_line) ≡ (n == 0)))

-- an entry more, and no greeting is the last line
abbrev pub EntriesEndGreetings : Type 0
EntriesEndGreetings = (journal : List ℕ) (e : Entry) (torn : Bool) → IsPrintable e
    → torn ≡ nat_lt 0 (length (text_of journal).tail)
    → is_greeted (journal ++ added_bytes torn (e ∷ [])) ≡ false
