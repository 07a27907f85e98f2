use Rattle.std.proofs.Common.{inr}
use Rattle.stmflash.proofs.Printed.{is-done, is-told}
use Rattle.stmflash.proofs.program.answer.Goals as goal

pub returns-in-Ok-clause-told : goal.returns-in-Ok-clause-told
returns-in-Ok-clause-told g c =
    inr (is-told _ _ _ _ _ _ _ _ _ c.in-Ok.ensures.steps c.print_steps.ensures.status)

pub returns-in-Ok-clause-done : goal.returns-in-Ok-clause-done
returns-in-Ok-clause-done g c =
    is-done _ _ _ _ _ _ _ _ _ c.in-Ok.ensures.steps c.print_steps.ensures.status
    c.print_steps.ensures.whole
