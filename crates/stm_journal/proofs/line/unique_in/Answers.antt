use Rattle.std.proofs.Common.{length}
use Rattle.stm_journal.proofs.Uniques.{unique-decoded, unique-refused}
use Rattle.stm_journal.proofs.line.unique_in.Goals as goal

pub returns-then-decode_upper : goal.returns-then-decode_upper
returns-then-decode_upper c =
    unique-decoded c.args.digits.now c.decode_upper.new.out (length c.args.room.now) c.decode_upper.result c.of.result c.requires c.decode_upper.ensures.decoded c.of.ensures

pub returns-else-decode_upper : goal.returns-else-decode_upper
returns-else-decode_upper c =
    unique-refused c.args.digits.now c.decode_upper.new.out (length c.args.room.now) c.decode_upper.result c.requires c.decode_upper.ensures.decoded c.if-decode_upper.false
