-- Bytes on their way to a line.
use Rattle.std.specs.Prelude.{◌≡◌, ℕ, List, ◌++◌, Option}
use Rattle.std.specs.Io.KnownBytes.{Appends}

-- Of these bytes the first were sent and the others wait: none is lost, and they stay in order.
pub record SendsInTurn (old new : Option (List ℕ)) (bytes waiting : List ℕ) : Type 0 where
  pub sent : List ℕ
  pub appends : Appends old new sent
  pub in_turn : bytes ≡ sent ++ waiting
