use Rattle.std.proofs.Common.{ℕ, ◌<◌}
use Rattle.stm_image.specs.Joined.{IsLikeAll}
use Rattle.stm_image.proofs.joining.first_unlike_two.Given as goal

-- none so far differs from one before it
abbrev pub invariant-loop-second : goal.invariant-loop-second
invariant-loop-second l = (k : ℕ) → k < l.second → IsLikeAll l.images k
