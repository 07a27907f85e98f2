use Rattle.std.proofs.Common.{ℕ, ◌<◌}
use Rattle.stm_image.specs.Joined.{DifferAt}
use Rattle.stm_image.proofs.joining.unlike_before.Given as goal

-- it differs from none so far
abbrev pub invariant-loop-first : goal.invariant-loop-first
invariant-loop-first l = (first address : ℕ) → first < l.first → ¬ DifferAt l.images first l.second address
