-- Bad lines for tests: what each is, as contracts see it, and what its calls do. Neither follows
-- the model.
use Rattle.std.specs.Prelude.{◌≡◌, ◌⊎◌, ℕ, ◌-◌, ◌==◌, if◌then◌else◌, List, [], ◌∷◌}
use Rattle.std.specs.Prelude.{◌++◌, drop, length, Option, Some, None, Result, Ok, Err}
use Rattle.stm_wire.specs.declared.fault.RigFault.{RigFault}
use Rattle.stm_wire.specs.declared.fault.RigFault.TheVariants.{Line, File, Stopped}
use Rattle.stm_wire.specs.declared.rig.RigCall.{RigCall}
use Rattle.stm_wire.specs.declared.rig.RigCall.TheVariants.{Put, Get, Append, Fetch}
use Rattle.stm_wire.specs.Call.{Call}
use Rattle.stm_wire.specs.Device.{Device}
use Rattle.stm_wire.specs.Exchange.{complement}
use Rattle.stm_sim.specs.Memory.{MemoryData, PutsInMemory, GetsInMemory}
use Rattle.stm_sim.specs.Memory.{AppendsInMemory, FetchesInMemory, count_more}
use Rattle.stm_sim.specs.lemmas.Recorded.{calls_told}
use Rattle.stm_wire.specs.Rig.{RigState}
use Rattle.stm_sim.specs.Unmodelled.{no_device}

-- a line that follows no model and keeps a record
abbrev pub bad_line : Device → List ℕ → ℕ → ℕ → List Call → RigState
bad_line device journal line_failures journal_failures calls =
    record {
      is_honest = ⊥;
      device = device;
      journal = journal;
      line_failures = line_failures;
      journal_failures = journal_failures;
      moment = length calls;
      left_since = λ moment d left. ⊥;
      calls = Some calls;
      has_room = ⊥;
      long_gets = None;
      told = None;
    }

-- a line that answers from a list
pub record ListData : Type 0 where
  -- the answers to come
  pub replies : List (Option ℕ)
  pub line_failures : ℕ
  pub journal_failures : ℕ
  pub calls : List RigCall
  -- the bytes of all appends
  pub written : List ℕ

abbrev pub list_data : List (Option ℕ) → ℕ → ℕ → List RigCall → List ℕ → ListData
list_data replies line_failures journal_failures calls written =
    record {
      replies = replies;
      line_failures = line_failures;
      journal_failures = journal_failures;
      calls = calls;
      written = written;
    }

abbrev pub list_state : ListData → RigState
list_state d =
    bad_line no_device [] d.line_failures d.journal_failures (calls_told d.written d.calls)

-- the next answer of a list, quiet past its end
abbrev pub next_reply : List (Option ℕ) → Option ℕ
next_reply [] = None
next_reply (reply ∷ replies) = reply

-- the same with one call more
abbrev pub with_entry : RigCall → ListData → ListData
with_entry call d = record d { calls = d.calls ++ call ∷ [] }

-- A call for whose entry there was no memory did nothing.
abbrev pub GoesUnlisted : RigFault → ListData → ListData → Type 0
GoesUnlisted Line old new = new ≡ record old { line_failures = count_more old.line_failures }
GoesUnlisted File old new = new ≡ record old { journal_failures = count_more old.journal_failures }
GoesUnlisted Stopped old new = ⊥

abbrev pub ListsLineCall : RigCall → Result (Unit {0}) RigFault → ListData → ListData → Type 0
ListsLineCall call (Ok done) old new = new ≡ with_entry call old
ListsLineCall call (Err fault) old new = (fault ≡ Line) × GoesUnlisted fault old new

abbrev pub ListsJournalCall : RigCall → Result (Unit {0}) RigFault → ListData → ListData → Type 0
ListsJournalCall call (Ok done) old new = new ≡ with_entry call old
ListsJournalCall call (Err fault) old new = (fault ≡ File) × GoesUnlisted fault old new

abbrev pub ListsAppend : List ℕ → Result (Unit {0}) RigFault → ListData → ListData → Type 0
ListsAppend bytes (Ok done) old new =
    new ≡ record (with_entry (Append (length bytes)) old) { written = old.written ++ bytes }
ListsAppend bytes (Err fault) old new = (fault ≡ File) × GoesUnlisted fault old new

abbrev pub GetsFromList : Result (Option ℕ) RigFault → ListData → ListData → Type 0
GetsFromList (Ok answer) old new =
    (answer ≡ next_reply old.replies)
    × (new ≡ with_entry (Get answer) (record old { replies = drop 1 old.replies }))
GetsFromList (Err fault) old new = (fault ≡ Line) × GoesUnlisted fault old new

-- there is nothing to read
abbrev pub FetchesNothing : List ℕ → List ℕ → Result ℕ RigFault → ListData → ListData → Type 0
FetchesNothing before after (Ok n) old new =
    (n ≡ 0) × (after ≡ before) × (new ≡ with_entry Fetch old)
FetchesNothing before after (Err fault) old new =
    (after ≡ before) × (fault ≡ File) × GoesUnlisted fault old new

-- a line that complements one of the bytes that another gives
pub record FlipData : Type 0 where
  pub inner : MemoryData
  -- which byte from now on that is: 1 the next; 0: none
  pub flips : ℕ
  pub line_failures : ℕ
  pub journal_failures : ℕ
  pub calls : List RigCall

abbrev pub flip_data : MemoryData → ℕ → ℕ → ℕ → List RigCall → FlipData
flip_data inner flips line_failures journal_failures calls =
    record {
      inner = inner;
      flips = flips;
      line_failures = line_failures;
      journal_failures = journal_failures;
      calls = calls;
    }

abbrev pub flip_state : FlipData → RigState
flip_state d =
    bad_line d.inner.device d.inner.journal d.line_failures d.journal_failures
    (calls_told d.inner.journal d.calls)

-- what is given in the place of an answer, and which byte is then to be complemented
abbrev pub given_for : ℕ → Option ℕ → Option ℕ
given_for flips None = None
given_for flips (Some byte) = Some (if flips == 1 then complement byte else byte)

abbrev pub flips_after : ℕ → Option ℕ → ℕ
flips_after flips None = flips
flips_after flips (Some byte) = flips - 1

abbrev pub counts_line_of : FlipData → FlipData
counts_line_of d = record d { line_failures = count_more d.line_failures }

abbrev pub counts_journal_of : FlipData → FlipData
counts_journal_of d = record d { journal_failures = count_more d.journal_failures }

-- the call was handed on, and stands in the record
abbrev pub handed_on : RigCall → MemoryData → FlipData → FlipData
handed_on call inner d = record d { inner = inner; calls = d.calls ++ call ∷ [] }

abbrev pub PutsOn : ℕ → Result (Unit {0}) RigFault → FlipData → FlipData → Type 0
PutsOn byte (Ok done) old new =
    PutsInMemory byte (Ok done) old.inner new.inner × (new ≡ handed_on (Put byte) new.inner old)
PutsOn byte (Err fault) old new =
    (PutsInMemory byte (Err fault) old.inner new.inner
    × (new ≡ counts_line_of (handed_on (Put byte) new.inner old)))
    ⊎ ((fault ≡ Line) × (new ≡ counts_line_of old))

abbrev pub GetsOn : Result (Option ℕ) RigFault → FlipData → FlipData → Type 0
GetsOn (Ok given) old new =
    (got : Option ℕ) × GetsInMemory (Ok got) old.inner new.inner × (given ≡ given_for old.flips got)
    × (new ≡ record (handed_on (Get given) new.inner old) { flips = flips_after old.flips got })
GetsOn (Err fault) old new =
    (GetsInMemory (Err fault) old.inner new.inner
    × (new ≡ counts_line_of (handed_on (Get None) new.inner old)))
    ⊎ ((fault ≡ Line) × (new ≡ counts_line_of old))

abbrev pub AppendsOn : List ℕ → Result (Unit {0}) RigFault → FlipData → FlipData → Type 0
AppendsOn bytes (Ok done) old new =
    AppendsInMemory bytes (Ok done) old.inner new.inner
    × (new ≡ handed_on (Append (length bytes)) new.inner old)
AppendsOn bytes (Err fault) old new =
    (AppendsInMemory bytes (Err fault) old.inner new.inner
    × (new
    ≡ counts_journal_of
    (handed_on (Append (length new.inner.journal - length old.inner.journal)) new.inner old)))
    ⊎ ((fault ≡ File) × (new ≡ counts_journal_of old))

abbrev pub FetchesOn : ℕ → List ℕ → List ℕ → Result ℕ RigFault → FlipData → FlipData → Type 0
FetchesOn at before after (Ok n) old new =
    FetchesInMemory at before after (Ok n) old.inner new.inner
    × (new ≡ handed_on Fetch new.inner old)
FetchesOn at before after (Err fault) old new =
    (FetchesInMemory at before after (Err fault) old.inner new.inner
    × (new ≡ counts_journal_of (handed_on Fetch new.inner old)))
    ⊎ ((fault ≡ File) × (after ≡ before) × (new ≡ counts_journal_of old))
