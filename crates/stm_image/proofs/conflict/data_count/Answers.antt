use Rattle.std.proofs.Common.{sym}
use Rattle.stm_image.proofs.Conflicting.{length-pairs_of}
use Rattle.stm_image.proofs.conflict.data_count.Goals as goal

pub returns-then-bytes-eq0 : goal.returns-then-bytes-eq0
returns-then-bytes-eq0 c form = sym (length-pairs_of form c.args.bytes.now c.requires c.if-bytes-eq0.true)
