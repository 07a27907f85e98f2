use Rattle.std.proofs.Common.{length}
use Rattle.stm_work.proofs.false_erase.+has_erase.Given as goal

abbrev pub decreases-has_erase : goal.decreases-has_erase
decreases-has_erase l = length l.bytes.now
