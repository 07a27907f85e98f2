use Rattle.std.proofs.Common.{◌-◌, ◌<◌, ◌≤◌, ℕ}
use Rattle.stm_image.specs.Lay.{DiffersAt}
use Rattle.stm_image.proofs.set.Image.first_difference.Given as goal

-- no place so far differs
abbrev pub invariant-runs : goal.invariant-runs
invariant-runs l = record {
  from : l.address ≤ l.at;
  same : (place : ℕ) → place < l.at → ¬ DiffersAt l.self l.address l.bytes place;
}

abbrev pub decreases-runs : goal.decreases-runs
decreases-runs l = l.end - l.at
