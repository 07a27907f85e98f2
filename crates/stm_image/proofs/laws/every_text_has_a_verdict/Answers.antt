use Rattle.stm_image.proofs.Every.{has_verdict}
use Rattle.stm_image.proofs.laws.every_text_has_a_verdict.Goals as goal

pub returns : goal.returns
returns c = has_verdict
