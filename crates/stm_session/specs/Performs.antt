-- What a step does, or some, with the journal and the device: on any line, and on an honest Rig.
use Rattle.std.specs.Prelude.{ℕ, List, Result, OnOk}
use Rattle.stm_wire.specs.Rig.{RigState}
use Rattle.stm_journal.specs.declared.entry.Entry.{Entry}
use Rattle.stm_journal.specs.Journals.{Loaded}
use Rattle.stm_session.specs.declared.fault.Fault.{Fault}
use Rattle.stm_session.specs.Order.{Step, Begin, Follows, FaultEnds}
use Rattle.stm_session.specs.Steps.{Goes, IsSteady}

-- On any line: at Ok such steps were done, and a fault ends a beginning of such. On an honest Rig
-- that is steady, and where they may be done: each moment stands, just these lines are added, and
-- what they were for is done.
pub record Performs {T : Type 0} (Made : List Step → Type 0) (lines : List Entry)
    (May : Type 0) (Done : T → Type 0) (l l2 : Loaded) (old new : RigState)
    (result : Result T Fault) : Type 0 where
  pub order : OnOk result (Follows Made l l2 old new)
  pub stops : FaultEnds (Begin Made) l.is_torn old new result
  pub honest : (flashes : List (List ℕ)) → IsSteady flashes l old → May
      → Goes flashes lines l2 old new result Done
