-- The chips so far are those of this table, over as many of the other as were read.
use Rattle.stm_chip.specs.Document.{HaveOwnIds}
use Rattle.stm_chip.specs.Over.{IsOver}
use Rattle.stm_chip.proofs.table.Table.over.Given as goal

abbrev pub invariant-loop-chip : goal.invariant-loop-chip
invariant-loop-chip l = HaveOwnIds l.chips.items × IsOver l.fn.self l.yielded l.chips.items
