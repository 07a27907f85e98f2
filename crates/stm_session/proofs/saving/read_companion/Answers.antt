use Rattle.stm_session.proofs.Savings.{reads_due, reads_none}
use Rattle.stm_session.proofs.saving.read_companion.Goals as goal

pub returns-then-not-due-clause-reads : goal.returns-then-not-due-clause-reads
returns-then-not-due-clause-reads g c l =
    reads_none c.step_laws.ensures c.args.chip.now 257 l _ c.args.due
    (g.met.R.Rig.model c.args.rig.now) c.if-not-due.true _

pub returns-clause-reads : goal.returns-clause-reads
returns-clause-reads g c l =
    let read = c.read_range.ensures in
    let start = c.page_start-start in
    let size = c.page_size-size in
    reads_due c.args.chip.now 257 start.result size.result (c.requires c.if-not-due.false)
    start.ensures.address size.ensures.bytes size.ensures.blocks.1 c.step_laws.ensures l _ _
    c.args.due c.if-not-due.false _ read.size read.order read.order_stops read.honest
