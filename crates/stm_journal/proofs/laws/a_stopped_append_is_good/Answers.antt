use Rattle.stm_journal.proofs.Stopping.{beginnings-are-good}
use Rattle.stm_journal.proofs.laws.a_stopped_append_is_good.Goals as goal

pub returns : goal.returns
returns c = beginnings-are-good
