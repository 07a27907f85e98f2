use Rattle.std.proofs.Common.{ℕ, ◌+◌, subst}
use Rattle.stm_image.specs.Pairs.{HasNone}
use Rattle.stm_session.proofs.comparing.next_block.Goals as goal

pub returns-in_default : goal.returns-in_default
returns-in_default c = let N : ℕ → Type 0 = λ b. HasNone c.args.image.now (b + c.args.done) in subst N c.base.ensures c.in_default.ensures
