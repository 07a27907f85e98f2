-- The frames of the blocks so far.
use Rattle.std.proofs.Common.{◌≡◌}
use Rattle.stm_chip.specs.Plan.{frames_of}
use Rattle.stm_chip.proofs.plan.page_frames.Given as goal

abbrev pub invariant-loop-n : goal.invariant-loop-n
invariant-loop-n l = l.frames.items ≡ frames_of l.erased l.page l.n
