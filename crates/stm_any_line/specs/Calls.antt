-- What one call of a session did on any line, whatever it answered.
use Rattle.std.proofs.Common.{◌≡◌, ◌⊎◌, inl, inr, Bool, List, [], ◌∷◌, ◌++◌, Option, Some, None}
use Rattle.std.specs.List.{AllByRecursion}
use Rattle.stm_wire.specs.declared.fault.WireFault.{WireFault}
use Rattle.stm_wire.specs.Call.{Call}
use Rattle.stm_wire.specs.Chip.{ChipData}
use Rattle.stm_wire.specs.Dialogue.{AreLineCalls, IsBrokenOff}
use Rattle.stm_wire.specs.Rig.{RigState}
use Rattle.stm_journal.specs.declared.entry.Entry.{Entry}
use Rattle.stm_journal.specs.declared.entry.Entry.TheVariants.{Names, Opens, Keeps, Erases}
use Rattle.stm_journal.specs.declared.entry.Entry.TheVariants.{Programs, Ends, Undoes}
use Rattle.stm_journal.specs.Calls.{AppendsInPart}
use Rattle.stm_journal.specs.Journals.{Loaded, added_bytes}
use Rattle.stm_session.specs.Order.{Step, Adds, Sends, acts_of, acts_of_steps, step_in, torn_behind}
use Rattle.stm_session.specs.Reaching.{Session}
use Rattle.stm_any_line.specs.Segments.{segments_behind_steps}
use Rattle.stm_any_line.specs.Tracks.{Tracks}

-- the Rig keeps a record, which went on by just these calls
pub record Made (calls : List Call) (old new : RigState) : Type 0 where
  pub past : List Call
  pub before : old.calls ≡ Some past
  pub after : new.calls ≡ Some (past ++ calls)

-- the calls of a step that failed, if one did: its frame was broken off, or its lines were added
-- only in part
abbrev pub AreBegunOf : Bool → Option Step → List Call → Type 0
AreBegunOf torn None calls = calls ≡ []
AreBegunOf torn (Some (Sends turns)) calls = (fault : WireFault) × IsBrokenOff fault turns calls
AreBegunOf torn (Some (Adds entries)) calls = AppendsInPart (added_bytes torn entries) calls

-- each line that these steps add is such
abbrev pub AllSay : (Entry → Type 0) → List Step → Type 0
AllSay Says [] = Unit {0}
AllSay Says (Adds entries ∷ steps) = AllByRecursion Says entries × AllSay Says steps
AllSay Says (Sends turns ∷ steps) = AllSay Says steps

-- a run takes no segment off
abbrev pub RunSays : Entry → Type 0
RunSays (Names version id unique) = Unit {0}
RunSays (Opens number) = Unit {0}
RunSays (Keeps n bytes) = Unit {0}
RunSays (Erases n) = Unit {0}
RunSays (Programs n) = Unit {0}
RunSays (Ends number) = Unit {0}
RunSays (Undoes number) = ⊥

-- an undo begins none and keeps nothing
abbrev pub UndoSays : Entry → Type 0
UndoSays (Erases n) = Unit {0}
UndoSays (Programs n) = Unit {0}
UndoSays (Undoes number) = Unit {0}
UndoSays _ = ⊥

-- The calls are these: a device was settled, steps were done whole, and perhaps one more was begun,
-- which failed.
pub record AreSteps (torn : Bool) (calls : List Call) : Type 0 where
  pub settling : List Call
  pub line : AreLineCalls settling
  pub done : List Step
  pub failed : Option Step
  pub last : List Call
  pub begun : AreBegunOf (torn_behind torn done) failed last
  pub is : acts_of calls ≡ settling ++ (acts_of_steps torn done ++ last)

-- Behind steps that were done before, such were done; all of them may come behind those, where the
-- lines so far are those of the steps before; and each line is such.
pub record DoesBehind (Says : Entry → Type 0) (chip : ChipData) (before : List Step) (torn : Bool)
    (calls : List Call) : Type 0 where
  pub did : AreSteps torn calls
  pub tracks : Tracks chip (segments_behind_steps [] before) before
      (did.done ++ step_in did.failed)
  pub says : AllSay Says (did.done ++ step_in did.failed)

-- a session of this chip, which loaded this journal
abbrev pub IsOf : {table : List ChipData} {old : RigState} {P : ChipData → Loaded → Type 0}
    → ChipData → Loaded → Session table old P → Type 0
IsOf chip l session = (session.chip ≡ chip) × (session.journal ≡ l)

-- where there was one
abbrev pub IsOfIfAny : {A : Type 0} {table : List ChipData} {old : RigState}
    {P : ChipData → Loaded → Type 0} → ChipData → Loaded → A ⊎ Session table old P → Type 0
IsOfIfAny chip l (inl none) = Unit {0}
IsOfIfAny chip l (inr session) = IsOf chip l session

-- What a run did, at Ok and at a fault, behind any steps and the lines that they added.
abbrev pub RunTracks : RigState → RigState → Type 0
RunTracks old new = (calls : List Call) (before : List Step) → Made calls old new
    → (chip : ChipData) × (torn : Bool) × DoesBehind RunSays chip before torn calls
