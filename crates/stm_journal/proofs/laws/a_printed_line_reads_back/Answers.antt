use Rattle.stm_journal.proofs.Lines.{entry_of-line}
use Rattle.stm_journal.proofs.laws.a_printed_line_reads_back.Goals as goal

pub returns : goal.returns
returns c = entry_of-line
