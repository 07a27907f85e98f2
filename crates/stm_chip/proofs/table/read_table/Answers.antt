-- The chips that were read have ids of their own.
use Rattle.stm_chip.proofs.Documents.{own_ids}
use Rattle.stm_chip.proofs.table.read_table.Goals as goal

pub invariant_of-result : goal.invariant_of-result
invariant_of-result c = own_ids c.in_ok-chips.ensures
