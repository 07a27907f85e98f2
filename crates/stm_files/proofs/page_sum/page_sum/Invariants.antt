use Rattle.std.proofs.Common.{◌≡◌, length}
use Rattle.stm_files.specs.Crc.{crc_from}
use Rattle.stm_files.specs.PageSum.{page_sum, whole_words_of}
use Rattle.stm_files.proofs.page_sum.page_sum.Given as goal

-- the register, with the words that are left, comes to what all of them do
abbrev pub invariant-loop-left : goal.invariant-loop-left
invariant-loop-left l = crc_from l.register (whole_words_of l.left) ≡ page_sum l.bytes

abbrev pub decreases-loop-left : goal.decreases-loop-left
decreases-loop-left l = length l.left
