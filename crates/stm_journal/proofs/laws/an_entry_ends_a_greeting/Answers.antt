use Rattle.stm_journal.proofs.Greeting.{entries-end-greetings}
use Rattle.stm_journal.proofs.laws.an_entry_ends_a_greeting.Goals as goal

pub returns : goal.returns
returns c = entries-end-greetings
