-- A call of a Rig, as contracts see it.
use Rattle.std.specs.Prelude.{ℕ, List, Option}

-- one call of a Rig, as a record of its calls has it
pub data Call : Type 0 where
  -- this byte was handed in to be sent
  Put : ℕ → Call
  -- this byte came; None: quiet, or failed
  Get : Option ℕ → Call
  -- these bytes were added to the journal
  Append : List ℕ → Call
  -- journal bytes were asked for
  Fetch : Call
