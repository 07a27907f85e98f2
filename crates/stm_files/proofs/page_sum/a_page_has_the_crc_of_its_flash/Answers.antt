use Rattle.stm_files.proofs.PageSums.{of-the-flash}
use Rattle.stm_files.proofs.page_sum.a_page_has_the_crc_of_its_flash.Goals as goal

pub returns : goal.returns
returns c = of-the-flash
