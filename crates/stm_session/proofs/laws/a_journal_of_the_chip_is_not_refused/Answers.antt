use Rattle.stm_session.proofs.Fitting.{fits-unrefused, unrefused-fits}
use Rattle.stm_session.proofs.UnaskedBoards.{part-unasked}
use Rattle.stm_session.proofs.Work.{work_by_chip}
use Rattle.stm_session.proofs.laws.a_journal_of_the_chip_is_not_refused.Goals as goal

pub returns-clause-unrefused : goal.returns-clause-unrefused
returns-clause-unrefused c chip s fits = fits-unrefused chip s fits

pub returns-clause-fits : goal.returns-clause-fits
returns-clause-fits c chip s none = unrefused-fits chip s none

pub returns-clause-work : goal.returns-clause-work
returns-clause-work c chip s sound fits = work_by_chip chip s sound fits

pub returns-clause-asked : goal.returns-clause-asked
returns-clause-asked c listed chip s part fits = part-unasked listed chip s part fits
