use Rattle.stmflash.proofs.variables.Variables.check_others.Goals as goal

pub returns : goal.returns
returns c = (c.in_ok-check.ensures.read, (c.in_ok-check-2.ensures.read, (c.in_ok-check-3.ensures.read, (c.in_ok-check-4.ensures.read, (c.in_ok-check-5.ensures.read, (c.in_ok-check-6.ensures.read, tt))))))
