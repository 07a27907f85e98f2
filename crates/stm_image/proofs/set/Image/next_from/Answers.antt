use Rattle.stm_image.proofs.Running.{next_of_run}
use Rattle.stm_image.proofs.set.Image.next_from.Goals as goal

pub returns-in-Some : goal.returns-in-Some
returns-in-Some c =
    next_of_run c.args.self.now c.args.address c.in-Some.start c.in-Some.bytes.now (rw c.self.view_is at c.self.invariant.image.rises) c.in-Some.ensures
