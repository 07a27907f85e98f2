use Rattle.stm_session.proofs.Differences.{first-difference-is-first, no-difference-agrees}
use Rattle.stm_session.proofs.headline.the_first_difference_is_the_first.Goals as goal

pub returns-clause-first : goal.returns-clause-first
returns-clause-first c = first-difference-is-first

pub returns-clause-none : goal.returns-clause-none
returns-clause-none c = no-difference-agrees
