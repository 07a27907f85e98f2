use Rattle.stm_session.proofs.Comparisons.{told_is}
use Rattle.stm_session.proofs.comparing.find_in.Goals as goal

pub returns : goal.returns
returns c = told_is c.args.image.now c.args.address c.args.bytes.now c.first_difference.result c.first_difference.ensures
