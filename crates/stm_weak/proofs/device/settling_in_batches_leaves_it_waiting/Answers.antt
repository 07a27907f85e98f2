use Rattle.stm_weak.proofs.Batches.{batches_leave_it_waiting}
use Rattle.stm_weak.proofs.FedFrames.{stopped_is_tame}
use Rattle.stm_weak.proofs.device.settling_in_batches_leaves_it_waiting.Goals as goal

pub returns-clause-waits : goal.returns-clause-waits
returns-clause-waits c = batches_leave_it_waiting

pub returns-clause-tame : goal.returns-clause-tame
returns-clause-tame c = stopped_is_tame
