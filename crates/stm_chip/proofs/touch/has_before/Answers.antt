-- The least of all places decides.
use Rattle.stm_chip.proofs.Touching.{before_least, before_none}
use Rattle.stm_chip.proofs.touch.has_before.Goals as goal

pub returns-in-Some : goal.returns-in-Some
returns-in-Some c = before_least c.args.image.now c.args.address (c.in-Some.place, c.in-Some.field-0-1) c.in-Some.ensures

pub returns-in-None : goal.returns-in-None
returns-in-None c = before_none c.args.image.now c.args.address c.in-None.ensures
