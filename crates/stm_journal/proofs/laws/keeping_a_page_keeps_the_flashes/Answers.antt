use Rattle.stm_journal.proofs.Laying.{keeping-keeps}
use Rattle.stm_journal.proofs.laws.keeping_a_page_keeps_the_flashes.Goals as goal

pub returns : goal.returns
returns c = keeping-keeps
