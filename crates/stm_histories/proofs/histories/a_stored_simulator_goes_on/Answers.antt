use Rattle.stm_histories.proofs.Stored.{stored-can-begin, stored-goes-on}
use Rattle.stm_histories.proofs.histories.a_stored_simulator_goes_on.Goals as goal

pub returns-clause-begins : goal.returns-clause-begins
returns-clause-begins c = stored-can-begin c.a_ready_device_can_begin.ensures.undoable

pub returns-clause-goes_on : goal.returns-clause-goes_on
returns-clause-goes_on c = stored-goes-on
