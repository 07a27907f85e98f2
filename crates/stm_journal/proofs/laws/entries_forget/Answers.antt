use Rattle.stm_journal.proofs.Forgets.{after-forgets}
use Rattle.stm_journal.specs.lemmas.ForgetLaws.{allows-forgets}
use Rattle.stm_journal.proofs.laws.entries_forget.Goals as goal

pub returns : goal.returns
returns c = λ line ends s e. (allows-forgets s e, after-forgets line ends s e)
