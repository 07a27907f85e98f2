use Rattle.stm_journal.proofs.Pairs.{id-refused}
use Rattle.stm_journal.proofs.line.id_of_digits.Goals as goal

pub returns-in-Err : goal.returns-in-Err
returns-in-Err c = id-refused c.args.digits.now c.decode_to_slice.new.out c.decode_to_slice.result _ c.requires c.decode_to_slice.ensures.value c.in-Err.is
