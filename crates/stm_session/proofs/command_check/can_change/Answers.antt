use Rattle.stm_session.proofs.CommandChecks.{no_change, some_change}
use Rattle.stm_session.proofs.command_check.can_change.Goals as goal

pub returns-then-not-has_change : goal.returns-then-not-has_change
returns-then-not-has_change c d told = no_change c.args.chip.now d c.args.commands.now c.has_change.result c.has_change.ensures c.if-not-has_change.true

pub returns-else-not-has_change : goal.returns-else-not-has_change
returns-else-not-has_change c d told =
    some_change c.args.chip.now d c.args.commands.now c.has_change.result c.has_change.ensures _ c.lists_erase.result c.if-not-has_change.false c.lists_erase.ensures told.codes
