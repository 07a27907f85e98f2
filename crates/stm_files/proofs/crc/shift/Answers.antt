use Rattle.stm_files.specs.Crc.{shifted}
use Rattle.stm_files.proofs.crc.shift.Goals as goal

pub returns : goal.returns
unfolding shifted
returns c = c.moved.ensures
