use Rattle.stm_disk.proofs.Folders.{unkept_is_empty}
use Rattle.stm_disk.proofs.laws.an_unkept_name_is_empty.Goals as goal

pub returns : goal.returns
returns c = unkept_is_empty
