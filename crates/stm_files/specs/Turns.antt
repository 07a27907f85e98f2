-- The last turns on a line.
use Rattle.std.specs.Prelude.{ℕ, List, [], ◌∷◌}
use Rattle.stm_files.specs.declared.turns.Turns.{Turns}
use Rattle.stm_files.specs.Turn.{TurnData}

-- the last turn in which something came
abbrev pub heard_in : TurnData → TurnData → List ℕ → TurnData
heard_in last heard [] = heard
heard_in last heard (first ∷ came) = last

abbrev pub heard_turn : Turns → TurnData
heard_turn turns = heard_in turns.last turns.heard turns.last.came
