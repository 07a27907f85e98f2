use Rattle.stm_weak.proofs.FedStepping.{stopped_settling_is_unread}
use Rattle.stm_weak.proofs.Putting.{may_put_is_unread}
use Rattle.stm_weak.proofs.Silent.{frames_are_unread}
use Rattle.stm_weak.proofs.Settling.{fresh_settling_is_unread}
use Rattle.stm_weak.proofs.device.frames_that_ask_or_change_are_unread.Goals as goal

pub returns-clause-unread : goal.returns-clause-unread
returns-clause-unread c = frames_are_unread

pub returns-clause-may_put : goal.returns-clause-may_put
returns-clause-may_put c = may_put_is_unread

pub returns-clause-settling : goal.returns-clause-settling
returns-clause-settling c = fresh_settling_is_unread

pub returns-clause-stopped : goal.returns-clause-stopped
returns-clause-stopped c = stopped_settling_is_unread
