-- One chip of the other table more.
use Rattle.stm_chip.proofs.Joining.{over_more}
use Rattle.stm_chip.proofs.table.Table.over.Goals as goal

pub loop-chip-preserved : goal.loop-chip-preserved
loop-chip-preserved c = (
  c.in_ok-add_new.ensures.own_ids c.loop-chip.invariant.0,
  over_more c.args.self c.loop-chip.yielded c.loop-chip.chips.items c.add_new.new.chips.items c.in-Some.chip c.loop-chip.invariant.1 c.in_ok-add_new.ensures.added,
)
