use Rattle.stm_journal.proofs.Names.{KeepsSame}
use Rattle.stm_tests.proofs.journal.call_order.undo_segment.Given as goal

abbrev pub invariant-loop-i : goal.invariant-loop-i
invariant-loop-i g l = KeepsSame l.fn.journal.state l.journal.state
