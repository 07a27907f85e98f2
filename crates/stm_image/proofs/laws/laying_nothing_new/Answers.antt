use Rattle.stm_image.proofs.Laid.{agrees_from, lay_from}
use Rattle.stm_image.proofs.laws.laying_nothing_new.Goals as goal

pub returns : goal.returns
returns c set address bytes = (agrees_from set address bytes, lay_from set address bytes)
