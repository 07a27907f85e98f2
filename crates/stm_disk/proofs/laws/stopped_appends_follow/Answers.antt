use Rattle.stm_disk.proofs.InTurn.{stopped_appends_follow}
use Rattle.stm_disk.proofs.laws.stopped_appends_follow.Goals as goal

pub returns : goal.returns
returns g c = stopped_appends_follow _ g.F.GrowingFile.view
