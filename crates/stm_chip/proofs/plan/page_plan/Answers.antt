-- What the frames give is what the page is to hold, and each has its place.
use Rattle.std.proofs.Common.{length}
use Rattle.stm_chip.proofs.Fitting.{frames_fit}
use Rattle.stm_chip.proofs.Programming.{written_all}
use Rattle.stm_chip.proofs.plan.page_plan.Goals as goal

pub returns-clause-gives_new : goal.returns-clause-gives_new
returns-clause-gives_new c =
    rw c.in_ok-frames.ensures.frames (written_all c.args.erased c.args.new.now (length c.args.old.now) c.requires.blocks c.requires.lengths)

pub returns-clause-fits : goal.returns-clause-fits
returns-clause-fits c = rw c.in_ok-frames.ensures.frames (frames_fit c.args.erased c.args.new.now c.requires.blocks)
