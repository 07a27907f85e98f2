-- Calls that add nothing to the journal.
use Rattle.std.specs.Prelude.{List, [], ◌∷◌}
use Rattle.stm_wire.specs.Call.{Call, Put, Get, Append, Fetch}

-- no call is an append
abbrev pub AppendsNothing : List Call → Type 0
AppendsNothing [] = Unit {0}
AppendsNothing (Put byte ∷ calls) = AppendsNothing calls
AppendsNothing (Get answer ∷ calls) = AppendsNothing calls
AppendsNothing (Append n ∷ calls) = ⊥
AppendsNothing (Fetch ∷ calls) = AppendsNothing calls
