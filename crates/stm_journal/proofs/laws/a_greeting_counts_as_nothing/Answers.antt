use Rattle.stm_journal.proofs.Greeting.{greetings-count-as-nothing}
use Rattle.stm_journal.proofs.laws.a_greeting_counts_as_nothing.Goals as goal

pub returns : goal.returns
returns c = greetings-count-as-nothing
