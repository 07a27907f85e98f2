use Rattle.stm_session.proofs.Unrefused.{unrefused_is_undoable, unrefused_run_is_undoable}
use Rattle.stm_session.proofs.laws.an_unrefused_journal_can_be_undone.Goals as goal

pub returns-clause-opened : goal.returns-clause-opened
returns-clause-opened c table d journal safe held none = unrefused_is_undoable table d journal safe held none

pub returns-clause-run : goal.returns-clause-run
returns-clause-run c table commands d journal safe held none = unrefused_run_is_undoable table commands d journal safe held none
