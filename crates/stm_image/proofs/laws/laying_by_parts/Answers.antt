use Rattle.stm_image.proofs.Laid.{length-lay, take-lay, drop-lay, lay-append}
use Rattle.stm_image.proofs.laws.laying_by_parts.Goals as goal

pub returns-clause-length : goal.returns-clause-length
returns-clause-length c = length-lay

pub returns-clause-front : goal.returns-clause-front
returns-clause-front c = take-lay

pub returns-clause-back : goal.returns-clause-back
returns-clause-back c = drop-lay

pub returns-clause-joined : goal.returns-clause-joined
returns-clause-joined c = lay-append
