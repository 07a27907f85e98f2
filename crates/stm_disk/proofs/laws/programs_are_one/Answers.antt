use Rattle.stm_disk.proofs.Folders.{programs_are_one}
use Rattle.stm_disk.proofs.laws.programs_are_one.Goals as goal

pub returns : goal.returns
returns c = programs_are_one
