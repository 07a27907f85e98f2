use Rattle.stm_files.proofs.PageSeals.{sealed-in, unsealed}
use Rattle.stm_files.proofs.page_seal.seal_of.Goals as goal

pub returns-in-Some : goal.returns-in-Some
returns-in-Some c =
    sealed-in c.a_printed_line_reads_back.ensures c.args.added.now c.in-Some.digits.now (λ line. line.items) c.sum_of.result c.in-Some.ensures c.sum_of.ensures

pub returns-in-None : goal.returns-in-None
returns-in-None c = unsealed c.a_printed_line_reads_back.ensures c.args.added.now c.new.result.items c.in-None.ensures c.new.ensures.items
