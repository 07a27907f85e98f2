use Rattle.stm_any_line.proofs.Remembering.{changed_is_kept, kept_was_read}
use Rattle.stm_any_line.proofs.laws.what_is_changed_is_kept_as_it_was_read.Goals as goal

pub returns-clause-read : goal.returns-clause-read
returns-clause-read g = kept_was_read

pub returns-clause-kept : goal.returns-clause-kept
returns-clause-kept g = changed_is_kept
