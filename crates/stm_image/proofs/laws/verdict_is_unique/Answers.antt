use Rattle.stm_image.proofs.Verdicts.{one_meaning, one_fault, not_both}
use Rattle.stm_image.proofs.laws.verdict_is_unique.Goals as goal

pub returns-clause-meaning : goal.returns-clause-meaning
returns-clause-meaning c = one_meaning

pub returns-clause-fault : goal.returns-clause-fault
returns-clause-fault c = one_fault

pub returns-clause-never_both : goal.returns-clause-never_both
returns-clause-never_both c = not_both
