-- No other chip of the table has the id.
use Rattle.stm_chip.proofs.Documents.{found_alone}
use Rattle.stm_chip.proofs.table.Table.find.Goals as goal

pub returns : goal.returns
returns c =
    rw (← c.self.view_is, ← c.deref.ensures.value)
    (found_alone c.deref.result.now c.args.id c.first_with.result (rw c.deref.ensures.value c.self.invariant) c.first_with.ensures)
