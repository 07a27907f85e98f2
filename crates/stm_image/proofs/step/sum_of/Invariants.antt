use Rattle.std.proofs.Common.{◌≡◌, ◌%◌, take, sum}
use Rattle.stm_image.proofs.step.sum_of.Given as goal

abbrev pub invariant-loop-b : goal.invariant-loop-b
invariant-loop-b l = l.total ≡ sum (take l.b-index l.bytes) % 256
