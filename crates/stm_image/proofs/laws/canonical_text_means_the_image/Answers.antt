use Rattle.stm_image.proofs.Canonical.{canon_means}
use Rattle.stm_image.proofs.Verdicts.{one_meaning, not_both}
use Rattle.stm_image.proofs.laws.canonical_text_means_the_image.Goals as goal

pub returns-clause-means : goal.returns-clause-means
returns-clause-means c = canon_means

pub returns-clause-nothing_else : goal.returns-clause-nothing_else
returns-clause-nothing_else c set other is means = one_meaning _ other set means (canon_means set is)

pub returns-clause-faultless : goal.returns-clause-faultless
returns-clause-faultless c set fault is = not_both _ set fault (canon_means set is)
