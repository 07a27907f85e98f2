use Rattle.stm_wire.proofs.Stopped.{stopped_awaits_few, stopped_is_harmless, fresh_is_harmless}
use Rattle.stm_wire.proofs.harmless.stopped_is_harmless.Goals as goal

pub returns-clause-stopped : goal.returns-clause-stopped
returns-clause-stopped c = stopped_is_harmless

pub returns-clause-awaits : goal.returns-clause-awaits
returns-clause-awaits c = stopped_awaits_few

pub returns-clause-fresh : goal.returns-clause-fresh
returns-clause-fresh c = fresh_is_harmless
