-- What the journal tells in an undo, on any line: each page that is given back gets just the bytes
-- whose digits fetches brought in that call, at that place.
use Rattle.std.specs.Prelude.{◌≡◌, ℕ, ◌<◌, ◌≤◌, Bool, false, List, ◌++◌, length}
use Rattle.hex.specs.Hex.{encode_upper}
use Rattle.stm_wire.specs.Call.{Call}
use Rattle.stm_wire.specs.Chip.{ChipData}
use Rattle.stm_wire.specs.Dialogue.{GoesOn}
use Rattle.stm_wire.specs.Rig.{RigState}
use Rattle.stm_journal.specs.Calls.{AreFetches}
use Rattle.stm_journal.specs.PageFetching.{Brings}
use Rattle.stm_session.specs.declared.fault.Fault.{Fault}
use Rattle.stm_session.specs.declared.returned.Returned.{Returned}
use Rattle.stm_session.specs.Order.{Step, Tells, BeginTold, IsInOrder, acts_of, acts_of_steps}
use Rattle.stm_session.specs.Order.{tells_behind}
use Rattle.stm_session.specs.Reaching.{StepsOf, confirming}
use Rattle.stm_session.specs.UndoOrder.{AreTakenAs, AreTakenWhole, OrMisread, UndoDoes}
use Rattle.stm_session.specs.UndoOrder.{UndoDoesInPart}

-- some calls
abbrev pub AreCalls : List Call → Type 0
AreCalls calls = Unit {0}

-- On its way from the old state to the new one a Rig was in two states of its own: the first behind
-- just these steps; and between them came fetches alone, which brought the digits of these bytes
-- and nothing else.
pub record ToldBehind {R : Type 0} (view : R → RigState) (Behind : List Step → List Call → Type 0)
    (old new : RigState) (steps : List Step) (page : List ℕ) : Type 0 where
  pub before : R
  pub after : R
  pub done : GoesOn (Behind steps) old.calls (view before).calls
  pub fetches : GoesOn AreFetches (view before).calls (view after).calls
  pub brought : Brings (encode_upper page) (view before).told (view after).told
  pub rest : GoesOn AreCalls (view after).calls new.calls

-- where all calls from the old state on are of these steps
abbrev pub ToldIn : {R : Type 0} → (R → RigState) → Bool → RigState → RigState → Tells
ToldIn view torn old new steps page = ToldBehind view (IsInOrder torn) old new steps page

-- calls that end with these steps
abbrev pub EndsWith : List Step → List Call → Type 0
EndsWith steps calls = (torn : Bool) × (earlier : List Call)
    × (acts_of calls ≡ earlier ++ acts_of_steps torn steps)

-- where a session was opened before
abbrev pub ToldBy : {R : Type 0} → (R → RigState) → RigState → RigState → Tells
ToldBy view old new steps page = ToldBehind view EndsWith old new steps page

-- as steps tell it that come behind the question whether the board is still the chip's
abbrev pub behind_confirming : ChipData → Tells → Tells
behind_confirming chip Told = tells_behind (confirming chip) Told

-- so many of the journal's segments are undone, behind that question
abbrev pub AreTakenTold : Tells → ℕ → StepsOf
AreTakenTold Told taken chip s steps =
    AreTakenAs false (behind_confirming chip Told) taken chip s steps

-- An undo at Ok: its steps, in which each page that is read or rewritten is given the bytes that
-- the journal told.
abbrev pub UndoGivesTold : {R : Type 0} → (R → RigState) → List ChipData → ℕ → RigState → RigState
    → Type 0
UndoGivesTold view table taken old new =
    UndoDoes (AreTakenTold (ToldBy view old new) taken) table old new

-- and one that tells what it returned
abbrev pub AreGivenBackTold : Bool → Tells → Returned → StepsOf
AreGivenBackTold again Told returned chip s steps =
    AreTakenWhole again (behind_confirming chip Told) returned chip s steps

abbrev pub GivesBackTold : {R : Type 0} → (R → RigState) → Bool → List ChipData → Returned → RigState
    → RigState → Type 0
GivesBackTold view again table returned old new =
    UndoDoes (AreGivenBackTold again (ToldBy view old new) returned) table old new

-- a beginning of them
abbrev pub BeginTakingTold : Bool → Tells → ℕ → StepsOf
BeginTakingTold again Told count chip s steps = (taken : ℕ) × (taken ≤ length s.stack)
    × (0 < count → taken ≤ count) × OrMisread again chip
    (BeginTold (λ T. AreTakenAs again T taken chip s) (behind_confirming chip Told)) steps

-- An undo at a fault: such a beginning, each step whole but the last, which failed.
abbrev pub UndoStopsToldAs : {R : Type 0} → (R → RigState) → Bool → List ChipData → ℕ → RigState
    → RigState → Fault → Type 0
UndoStopsToldAs view again table count old new fault =
    UndoDoesInPart (BeginTakingTold again (ToldBy view old new) count) table old new fault

abbrev pub UndoStopsTold : {R : Type 0} → (R → RigState) → List ChipData → ℕ → RigState → RigState
    → Fault → Type 0
UndoStopsTold view table count old new fault = UndoStopsToldAs view false table count old new fault
