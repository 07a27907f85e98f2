use Rattle.stm_session.proofs.Openings.{has_chip, lacks_chip}
use Rattle.stm_session.proofs.laws.a_chip_is_looked_up_by_its_id.Goals as goal

pub returns-clause-held : goal.returns-clause-held
returns-clause-held c table id chip is = has_chip table id chip is

pub returns-clause-lacking : goal.returns-clause-lacking
returns-clause-lacking c table id new_id = lacks_chip table id new_id
