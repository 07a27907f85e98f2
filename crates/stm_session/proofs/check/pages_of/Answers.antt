use Rattle.std.proofs.Common.{arith}
use Rattle.std.proofs.lemmas.List.{length-take}
use Rattle.stm_session.proofs.check.pages_of.Goals as goal

pub returns : goal.returns
returns c = omega (arith, c.pages.ensures, c.min.ensures, length-take c.args.most c.args.chip.now.sizes)
