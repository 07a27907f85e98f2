use Rattle.stm_disk.proofs.InTurn.{appends_are_one}
use Rattle.stm_disk.proofs.laws.appends_are_one.Goals as goal

pub returns : goal.returns
returns g c = appends_are_one _ _ g.F.GrowingFile.view
