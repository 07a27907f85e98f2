use Rattle.std.proofs.Common.{inl, inr}
use Rattle.std.proofs.lemmas.Result.{IfOk-weaker}
use Rattle.stmflash.proofs.first_question.find_journal.Goals as goal

pub returns-in-Ask : goal.returns-in-Ask
returns-in-Ask g c = IfOk-weaker _ _ _ (λ found is. inr is) c.ask_and_take.ensures

pub returns-in-Connect : goal.returns-in-Connect
returns-in-Connect g c = IfOk-weaker _ _ _ (λ found is. inr is) c.ask_and_take-in-Connect.ensures

pub returns-in-Take : goal.returns-in-Take
returns-in-Take g c = IfOk-weaker _ _ _ (λ found is. inl is) c.take_wanted.ensures
