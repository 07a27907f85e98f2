use Rattle.stm_session.proofs.Greetings.{fresh_greetable, loss_greetable, stopped_greetable}
use Rattle.stm_session.proofs.laws.a_stopped_command_may_be_greeted.Goals as goal

pub returns-clause-fresh : goal.returns-clause-fresh
returns-clause-fresh c = fresh_greetable c.stopped_may_be_greeted.ensures.fresh

pub returns-clause-lost : goal.returns-clause-lost
returns-clause-lost c = loss_greetable c.greeting_is_kept.ensures.lost

pub returns-clause-stopped : goal.returns-clause-stopped
returns-clause-stopped c = stopped_greetable c.stopped_may_be_greeted.ensures.sending c.sending_is_harmless.ensures.sending c.greeting_is_kept.ensures.more_pages c.a_journal_is_sound.ensures
