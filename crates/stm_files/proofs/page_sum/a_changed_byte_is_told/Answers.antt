use Rattle.stm_files.proofs.PageSums.{a-change-is-told}
use Rattle.stm_files.proofs.page_sum.a_changed_byte_is_told.Goals as goal

pub returns : goal.returns
returns c = a-change-is-told
