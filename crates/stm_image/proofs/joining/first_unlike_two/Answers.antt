use Rattle.std.proofs.Common.{ℕ, arith}
use borrow.Author.Count.{below_more}
use Rattle.stm_image.specs.Joined.{IsLikeAll}
use Rattle.stm_image.proofs.Alike.{all_alike}
use Rattle.stm_image.proofs.joining.first_unlike_two.Goals as goal

pub loop-second-preserved : goal.loop-second-preserved
loop-second-preserved c k lt = below_more (λ (n : ℕ). IsLikeAll c.args.images.now n) c.loop-second.second c.loop-second.invariant c.in_default.ensures k lt

pub unreachable-requires : goal.unreachable-requires
unreachable-requires c = c.requires (all_alike c.args.images.now (λ k lt. c.loop-second.invariant k (omega (arith, lt, c.loop-second-test.false))))
