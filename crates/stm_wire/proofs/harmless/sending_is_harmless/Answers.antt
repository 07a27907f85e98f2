use Rattle.stm_wire.proofs.StoppedFrames.{sending_is_harmless, asking_changes_nothing}
use Rattle.stm_wire.proofs.harmless.sending_is_harmless.Goals as goal

pub returns-clause-sending : goal.returns-clause-sending
returns-clause-sending c = sending_is_harmless

pub returns-clause-asking : goal.returns-clause-asking
returns-clause-asking c = asking_changes_nothing
