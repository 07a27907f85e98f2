use Rattle.stm_wire.proofs.RefusableReads.{reads_change_nothing}
use Rattle.stm_wire.proofs.refusable_read.refusable_reads_are_harmless.Goals as goal

pub returns : goal.returns
returns c = reads_change_nothing
