use Rattle.std.proofs.Common.{length}
use Rattle.stm_work.proofs.false_erase.+has_false_erase.Given as goal

abbrev pub decreases-has_false_erase : goal.decreases-has_false_erase
decreases-has_false_erase l = length l.block.now
