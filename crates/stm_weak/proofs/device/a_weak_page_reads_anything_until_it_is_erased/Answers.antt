use Rattle.stm_weak.proofs.Meaning.{erase_heals, reads_anything}
use Rattle.stm_weak.proofs.device.a_weak_page_reads_anything_until_it_is_erased.Goals as goal

pub returns-clause-reads : goal.returns-clause-reads
returns-clause-reads c = reads_anything

pub returns-clause-heals : goal.returns-clause-heals
returns-clause-heals c = erase_heals
