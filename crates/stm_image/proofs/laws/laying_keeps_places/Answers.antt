use Rattle.stm_image.proofs.Laid.{lay_at, lay_past, lay_before}
use Rattle.stm_image.proofs.laws.laying_keeps_places.Goals as goal

pub returns-clause-each : goal.returns-clause-each
returns-clause-each c = lay_at

pub returns-clause-past : goal.returns-clause-past
returns-clause-past c = lay_past

pub returns-clause-before : goal.returns-clause-before
returns-clause-before c = lay_before
