use Rattle.stm_journal.proofs.Laying.{changes-keep}
use Rattle.stm_journal.proofs.laws.changes_of_kept_pages_keep_the_flashes.Goals as goal

pub returns : goal.returns
returns c = changes-keep
