use Rattle.stm_journal.proofs.Stopping.{entries-leave-either}
use Rattle.stm_journal.proofs.laws.an_entry_leaves_the_old_state_or_the_new.Goals as goal

pub returns : goal.returns
returns c = entries-leave-either
