-- The next place from the start on decides.
use Rattle.stm_chip.proofs.Touching.{within_next, within_none}
use Rattle.stm_chip.proofs.touch.has_within.Goals as goal

pub returns-in-Some : goal.returns-in-Some
returns-in-Some c = within_next c.args.image.now c.args.start c.args.size (c.in-Some.place, c.in-Some.field-0-1) c.in-Some.ensures

pub returns-in-None : goal.returns-in-None
returns-in-None c = within_none c.args.image.now c.args.start c.args.size c.in-None.ensures
