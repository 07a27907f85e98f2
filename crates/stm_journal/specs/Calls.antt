-- What the calls of a journal do to the Rig's journal, its device, its counts and its record.
use Rattle.std.specs.Prelude.{◌≡◌, ◌⊎◌, ℕ, ◌≤◌, List, [], ◌∷◌, ◌++◌, take, Some, Result, Ok, Err}
use Rattle.std.specs.Prelude.{OnOk, IfOk, IfErr}
use Rattle.stm_wire.specs.Call.{Call, Put, Get, Append, Fetch}
use Rattle.stm_wire.specs.Device.{Device, LosesOwed}
use Rattle.stm_wire.specs.Rig.{RigState, Rises, LeftByAppend, LeftByGet}
use Rattle.stm_wire.specs.Moments.{LeavesOnly}
use Rattle.stm_journal.specs.declared.entry.Entry.{Entry}
use Rattle.stm_journal.specs.declared.fault.JournalFault.{JournalFault}
use Rattle.stm_journal.specs.declared.fault.JournalFault.TheVariants.{File, Bad, OtherDevice}
use Rattle.stm_journal.specs.declared.fault.JournalFault.TheVariants.{OtherBoard, Memory}
use Rattle.stm_journal.specs.Journals.{Loaded, IsLoaded, added_bytes, journal_of, good, bad}
use Rattle.stm_journal.specs.declared.kept.Kept.{Kept}
use Rattle.stm_journal.specs.declared.kept.PagePlace.{PagePlace}
use Rattle.stm_journal.specs.States.{StateData}
use Rattle.stm_journal.specs.KeptPlaces.{kept_entry, place_of}

-- the fault of a file comes exactly where the count of such failures rose
abbrev pub FileCountRises : ℕ → ℕ → JournalFault → Type 0
FileCountRises before now File = Rises before now
FileCountRises before now (Bad line) = now ≡ before
FileCountRises before now OtherDevice = now ≡ before
FileCountRises before now OtherBoard = now ≡ before
FileCountRises before now Memory = now ≡ before

-- on any Rig: the counts; and an honest one stays honest
pub record HasJournalCause {T : Type 0} (old new : RigState)
    (result : Result T JournalFault) : Type 0 where
  pub later : old.journal_failures ≤ new.journal_failures
  pub done : OnOk result (new.journal_failures ≡ old.journal_failures)
  pub failed : IfErr result (FileCountRises old.journal_failures new.journal_failures)
  pub line_count : new.line_failures ≡ old.line_failures
  pub honest : old.is_honest → new.is_honest

-- nothing was appended, or a beginning of these bytes
abbrev pub AppendsInPart : List ℕ → List Call → Type 0
AppendsInPart bytes calls = (calls ≡ []) ⊎ ((n : ℕ) × (calls ≡ Append (take n bytes) ∷ []))

-- one append of these bytes; one that failed added a beginning of them, or is missing in the
-- record, and a call that failed for another cause made none
abbrev pub AppendsOnce : {T : Type 0} → List ℕ → Result T JournalFault → List Call → Type 0
AppendsOnce bytes (Ok x) calls = calls ≡ Append bytes ∷ []
AppendsOnce bytes (Err File) calls = AppendsInPart bytes calls
AppendsOnce bytes (Err (Bad line)) calls = calls ≡ []
AppendsOnce bytes (Err OtherDevice) calls = calls ≡ []
AppendsOnce bytes (Err OtherBoard) calls = calls ≡ []
AppendsOnce bytes (Err Memory) calls = calls ≡ []

-- each call is a fetch: the line wasn't used, and the journal was only read
abbrev pub AreFetches : List Call → Type 0
AreFetches [] = Unit {0}
AreFetches (Put byte ∷ calls) = ⊥
AreFetches (Get answer ∷ calls) = ⊥
AreFetches (Append n ∷ calls) = ⊥
AreFetches (Fetch ∷ calls) = AreFetches calls

-- after a fault of the file a beginning of the bytes is added, and after any other nothing
abbrev pub LeftByFault : List ℕ → RigState → RigState → JournalFault → Type 0
LeftByFault bytes old new File = LeftByAppend bytes old new.device new.journal
LeftByFault bytes old new (Bad line) = (new.journal ≡ old.journal) × (new.device ≡ old.device)
LeftByFault bytes old new OtherDevice = (new.journal ≡ old.journal) × (new.device ≡ old.device)
LeftByFault bytes old new OtherBoard = (new.journal ≡ old.journal) × (new.device ≡ old.device)
LeftByFault bytes old new Memory = (new.journal ≡ old.journal) × (new.device ≡ old.device)

-- These bytes are added at the end of an honest Rig's journal, all at Ok, a beginning of them at
-- any moment and after a fault of the file, none after another fault.
pub record AddsBytes {T : Type 0} (bytes : List ℕ) (old new : RigState)
    (result : Result T JournalFault) : Type 0 where
  pub honest : new.is_honest
  pub moments : LeavesOnly (LeftByAppend bytes old) old new
  pub added : OnOk result (new.journal ≡ old.journal ++ bytes)
  pub same_device : OnOk result (new.device ≡ old.device)
  pub fails : IfErr result (LeftByFault bytes old new)

-- a relation of the states that a journal's bytes come to, before and after
abbrev pub InText : (StateData → StateData → Type 0) → List ℕ → List ℕ → Type 0
InText Has old new = (s s2 : StateData) → journal_of old ≡ good s
    → journal_of new ≡ good s2 → Has s s2

-- The lines of these entries, and what a torn tail asks for before them, are added to the journal
-- that the one in memory is tied to, and the new one in memory is tied to the result.
pub record Appends {T : Type 0} (entries : List Entry) (l l2 : Loaded) (old new : RigState)
    (result : Result T JournalFault) : Type 0 where
  pub bytes : AddsBytes (added_bytes l.is_torn entries) old new result
  pub loaded : OnOk result (IsLoaded l2 new.journal)

-- the faults of a load
abbrev pub IsLoadAnswer : JournalFault → Type 0
IsLoadAnswer File = Unit {0}
IsLoadAnswer (Bad line) = Unit {0}
IsLoadAnswer OtherDevice = ⊥
IsLoadAnswer OtherBoard = ⊥
IsLoadAnswer Memory = Unit {0}

-- the faults of fetching a page whose line has this number
abbrev pub IsFetchAnswer : ℕ → JournalFault → Type 0
IsFetchAnswer line File = Unit {0}
IsFetchAnswer line (Bad number) = number ≡ line
IsFetchAnswer line OtherDevice = ⊥
IsFetchAnswer line OtherBoard = ⊥
IsFetchAnswer line Memory = ⊥

-- nothing but owed bytes changed, which a stop may lose
abbrev pub IsUntouched : RigState → Device → List ℕ → Type 0
IsUntouched old d journal = LeftByGet old d journal

-- the fault says what the bytes come to
abbrev pub IsFaultOf : List ℕ → JournalFault → Type 0
IsFaultOf journal File = Unit {0}
IsFaultOf journal (Bad line) = journal_of journal ≡ bad line
IsFaultOf journal OtherDevice = ⊥
IsFaultOf journal OtherBoard = ⊥
IsFaultOf [] Memory = ⊥
IsFaultOf (byte ∷ journal) Memory = Unit {0}

-- a fault of the file alone may have lost owed bytes
abbrev pub KeepsDevice : RigState → RigState → JournalFault → Type 0
KeepsDevice old new File = LosesOwed old.device new.device
KeepsDevice old new (Bad line) = new.device ≡ old.device
KeepsDevice old new OtherDevice = new.device ≡ old.device
KeepsDevice old new OtherBoard = new.device ≡ old.device
KeepsDevice old new Memory = new.device ≡ old.device

-- A load of an honest Rig's journal, of which it changes nothing.
pub record Loads (old new : RigState) (result : Result Loaded JournalFault) : Type 0 where
  pub honest : new.is_honest
  pub moments : LeavesOnly (IsUntouched old) old new
  pub journal : new.journal ≡ old.journal
  pub same_device : OnOk result (new.device ≡ old.device)
  pub kept_device : IfErr result (KeepsDevice old new)
  pub loaded : IfOk result (λ l. IsLoaded l old.journal)
  pub faults : IfErr result (IsFaultOf old.journal)

-- The bytes of a page are fetched from an honest Rig's journal, of which nothing is changed: at Ok
-- they are those that the journal keeps, and only the file can fail.
pub record FetchesPage (place : PagePlace) (after : List ℕ) (old new : RigState)
    (result : Result (Unit {0}) JournalFault) : Type 0 where
  pub honest : new.is_honest
  pub moments : LeavesOnly (IsUntouched old) old new
  pub journal : new.journal ≡ old.journal
  pub same_device : OnOk result (new.device ≡ old.device)
  pub kept_device : IfErr result (KeepsDevice old new)
  pub bytes : OnOk result ((s : StateData) (k i : ℕ) (kept : Kept) → journal_of old.journal ≡ good s
      → kept_entry s k i ≡ Some kept → place_of kept ≡ place → after ≡ kept.bytes)
  pub fails : IfErr result (λ e. e ≡ File)
