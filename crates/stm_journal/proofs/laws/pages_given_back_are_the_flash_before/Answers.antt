use Rattle.stm_journal.proofs.Laying.{held-is-before}
use Rattle.stm_journal.proofs.laws.pages_given_back_are_the_flash_before.Goals as goal

pub returns : goal.returns
returns c = held-is-before
