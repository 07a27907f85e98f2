use Rattle.stm_files.proofs.Escaping.{escaped-is-one-line}
use Rattle.stm_files.proofs.escaped.an_escaped_text_is_one_line.Goals as goal

pub returns : goal.returns
returns c = escaped-is-one-line
