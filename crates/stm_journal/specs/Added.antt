-- What one entry, and what beginning a segment, leave of the state that the text comes to,
-- wherever the append was stopped.
use Rattle.std.specs.Prelude.{◌≡◌, ◌⊎◌, ℕ, ◌<◌, ◌≤◌, false, List, [], ◌∷◌, ◌++◌, length, take, Some}
use Rattle.std.specs.Prelude.{option_map, IsTrue}
use Rattle.stm_wire.specs.declared.intent.Intent.TheVariants.{Erase, Program}
use Rattle.stm_wire.specs.UniqueId.{IsUniqueId}
use Rattle.stm_journal.specs.declared.entry.Entry.{Entry}
use Rattle.stm_journal.specs.declared.entry.Entry.TheVariants.{Names, Opens, Keeps, Erases}
use Rattle.stm_journal.specs.declared.entry.Entry.TheVariants.{Programs, Ends, Undoes}
use Rattle.stm_journal.specs.States.{StateData, allows, is_unfinished, names_other_board}
use Rattle.stm_journal.specs.Newest.{HasBegun, HasKept, HasIntended, HasEnded, HasUndone}
use Rattle.stm_journal.specs.Journals.{Loaded, IsLoaded, IsPrintable, journal_of, good, added_bytes}
use Rattle.stm_journal.specs.Journals.{begin_entries, NamesThis}

-- a header more
pub record HasNamed (version id : ℕ) (unique : List ℕ) (old new : StateData) : Type 0 where
  pub named : option_map (λ header. header.id) new.header ≡ Some id
  pub board : option_map (λ header. header.unique) new.header ≡ Some unique
  pub written : option_map (λ header. header.version) new.header ≡ Some version
  pub stack : new.stack ≡ old.stack

-- a segment more, for the device that the header names, and for each board but another one
abbrev pub HasOpenedSegment : StateData → StateData → Type 0
HasOpenedSegment old new =
    (new.header ≡ old.header)
    × ((id : ℕ) (unique : List ℕ) → option_map (λ header. header.id) old.header ≡ Some id
    → names_other_board unique old ≡ false → HasBegun id unique old new)

-- what an entry has made of a state
abbrev pub HasAdded : Entry → StateData → StateData → Type 0
HasAdded (Names version id unique) old new = HasNamed version id unique old new
HasAdded (Opens k) old new = HasOpenedSegment old new
HasAdded (Keeps n bytes) old new = HasKept n bytes old new
HasAdded (Erases n) old new = HasIntended n (Erase n) old new
HasAdded (Programs n) old new = HasIntended n (Program n) old new
HasAdded (Ends k) old new = HasEnded old new
HasAdded (Undoes k) old new = HasUndone old new

-- one entry that is allowed: the old state or the new one
abbrev pub EntriesLeaveEither : Type 0
EntriesLeaveEither = (l : Loaded) (journal : List ℕ) (s : StateData) (e : Entry) (n : ℕ)
    → IsLoaded l journal → journal_of journal ≡ good s
    → IsTrue (allows s e) → IsPrintable e
    → (s2 : StateData) × (journal_of (journal ++ take n (added_bytes l.is_torn (e ∷ []))) ≡ good s2)
    × ((s2 ≡ s) ⊎ HasAdded e s s2)

-- what begins a segment: the same segments, for no other device and no other board, or one more
abbrev pub BeginningsLeaveEither : Type 0
BeginningsLeaveEither = (l : Loaded) (journal : List ℕ) (s : StateData) (id : ℕ)
    (unique : List ℕ) (n : ℕ)
    → IsLoaded l journal → journal_of journal ≡ good s
    → is_unfinished s ≡ false → NamesThis id unique s
    → id ≤ 65535 → IsUniqueId unique → length s.stack < 65535
    → (s2 : StateData)
    × (journal_of (journal ++ take n (added_bytes l.is_torn (begin_entries id unique s))) ≡ good s2)
    × (((s2.stack ≡ s.stack) × NamesThis id unique s2) ⊎ HasBegun id unique s s2)
