use Rattle.stm_disk.proofs.Acknowledged.{keeps-acknowledged}
use Rattle.stm_disk.proofs.laws.a_cut_keeps_what_was_acknowledged.Goals as goal

pub returns : goal.returns
returns c = keeps-acknowledged
