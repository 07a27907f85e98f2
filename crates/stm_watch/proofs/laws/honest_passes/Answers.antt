use Rattle.stm_watch.proofs.Seeing.{seen-fed}
use Rattle.stm_watch.proofs.Hearing.{seen-heard, seen-first}
use Rattle.stm_watch.proofs.laws.honest_passes.Goals as goal

pub returns-clause-first : goal.returns-clause-first
returns-clause-first c = seen-first

pub returns-clause-fed : goal.returns-clause-fed
returns-clause-fed c = seen-fed

pub returns-clause-sent : goal.returns-clause-sent
returns-clause-sent c = seen-heard
