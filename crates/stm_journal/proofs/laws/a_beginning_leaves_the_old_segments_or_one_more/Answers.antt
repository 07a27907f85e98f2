use Rattle.stm_journal.proofs.Stopping.{beginnings-leave-either}
use Rattle.stm_journal.proofs.laws.a_beginning_leaves_the_old_segments_or_one_more.Goals as goal

pub returns : goal.returns
returns c = beginnings-leave-either
