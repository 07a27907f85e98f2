use Rattle.stm_wire.specs.lemmas.FlashLaws.{same_all}
use Rattle.stm_wire.proofs.Pages.{page_inside}
use Rattle.stm_wire.proofs.harmless.pages_are_the_flash.Goals as goal

pub returns-clause-inside : goal.returns-clause-inside
returns-clause-inside c = page_inside

pub returns-clause-same : goal.returns-clause-same
returns-clause-same c = same_all
