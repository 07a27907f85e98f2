use Rattle.stm_wire.proofs.GreetedFrames.{loss_may_be_greeted}
use Rattle.stm_wire.proofs.Greeted.{reset_may_be_greeted, more_may_be_greeted}
use Rattle.stm_wire.proofs.harmless.greeting_is_kept.Goals as goal

pub returns-clause-reset : goal.returns-clause-reset
returns-clause-reset c = reset_may_be_greeted

pub returns-clause-more_pages : goal.returns-clause-more_pages
returns-clause-more_pages c = more_may_be_greeted

pub returns-clause-lost : goal.returns-clause-lost
returns-clause-lost c = loss_may_be_greeted
