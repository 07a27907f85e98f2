use Rattle.stm_disk.proofs.Folders.{programs_take_turns}
use Rattle.stm_disk.proofs.laws.programs_take_turns.Goals as goal

pub returns : goal.returns
returns c = programs_take_turns
