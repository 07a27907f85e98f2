-- A turn on a line.
use Rattle.std.specs.Prelude.{ℕ, List}

-- what was put, and what came before the next byte was put: of each the first six bytes
pub record TurnData : Type 0 where
  pub put : List ℕ
  pub came : List ℕ
