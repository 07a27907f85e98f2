use Rattle.stm_wire.proofs.GreetedFrames.{sending_may_be_greeted}
use Rattle.stm_wire.proofs.Greeted.{stopped_may_be_greeted, fresh_may_be_greeted}
use Rattle.stm_wire.proofs.harmless.stopped_may_be_greeted.Goals as goal

pub returns-clause-stopped : goal.returns-clause-stopped
returns-clause-stopped c = stopped_may_be_greeted

pub returns-clause-fresh : goal.returns-clause-fresh
returns-clause-fresh c = fresh_may_be_greeted

pub returns-clause-sending : goal.returns-clause-sending
returns-clause-sending c = sending_may_be_greeted
