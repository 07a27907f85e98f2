use Rattle.stm_disk.proofs.Folders.{locked_before_the_first_byte}
use Rattle.stm_disk.proofs.laws.a_file_is_locked_before_its_first_byte.Goals as goal

pub returns : goal.returns
returns c = locked_before_the_first_byte
