use Rattle.stm_any_line.proofs.Texting.{texts_go_on}
use Rattle.stm_any_line.proofs.laws.a_text_is_the_lines_that_were_added.Goals as goal

pub returns : goal.returns
returns g = record { goes_on = texts_go_on }
