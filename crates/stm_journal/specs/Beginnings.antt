-- What a journal comes to where an append was stopped.
use Rattle.std.specs.Prelude.{◌≡◌, ◌⊎◌, ℕ, List, [], ◌∷◌, ◌++◌, take, IsTrue}
use Rattle.stm_journal.specs.declared.entry.Entry.{Entry}
use Rattle.stm_journal.specs.States.{StateData, allows, after_entry}
use Rattle.stm_journal.specs.Journals.{Loaded, IsLoaded, IsPrintable, journal_of, good, added_bytes}

-- a beginning of these entries leads from one state to the other, whatever numbers
-- and places their lines have
abbrev pub EntriesLead : List Entry → StateData → StateData → Type 0
EntriesLead [] s s2 = s2 ≡ s
EntriesLead (e ∷ entries) s s2 =
    (s2 ≡ s) ⊎ ((line : ℕ) × (ends : ℕ) × EntriesLead entries (after_entry line ends s e) s2)

-- each entry is allowed where it comes
abbrev pub AllAllowed : List Entry → StateData → Type 0
AllAllowed [] s = Unit {0}
AllAllowed (e ∷ entries) s =
    IsTrue (allows s e) × ((line ends : ℕ) → AllAllowed entries (after_entry line ends s e))

abbrev pub AllPrintable : List Entry → Type 0
AllPrintable [] = Unit {0}
AllPrintable (e ∷ entries) = IsPrintable e × AllPrintable entries

-- wherever an append is stopped, the journal is good, and a beginning of the
-- entries is added to its state
abbrev pub BeginningsAreGood : Type 0
BeginningsAreGood = (l : Loaded) (journal : List ℕ) (s : StateData) (entries : List Entry) (n : ℕ)
    → IsLoaded l journal → journal_of journal ≡ good s
    → AllAllowed entries s → AllPrintable entries
    → (s2 : StateData) × (journal_of (journal ++ take n (added_bytes l.is_torn entries)) ≡ good s2)
    × EntriesLead entries s s2
