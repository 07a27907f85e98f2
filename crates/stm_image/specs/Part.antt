-- A part of an image.
use Rattle.std.specs.Prelude.{◌⊎◌, ℕ, ◌+◌, ◌<◌, ◌≤◌, Contains}
use Rattle.stm_image.specs.Pairs.{Pairs}

-- a pair of a set that stands in so many places from an address on
pub record StandsIn (set : Pairs) (start size : ℕ) (p : ℕ × ℕ) : Type 0 where
  pub held : Contains set p
  pub from : start ≤ p.0
  pub within : p.0 < start + size

-- what one set has, and what another has there, and nothing else
pub record IsWithPart (old other : Pairs) (start size : ℕ) (new : Pairs) : Type 0 where
  pub among : (p : ℕ × ℕ) → Contains new p → Contains old p ⊎ StandsIn other start size p
  pub keeps : (p : ℕ × ℕ) → Contains old p → Contains new p
  pub adds : (p : ℕ × ℕ) → StandsIn other start size p → Contains new p
