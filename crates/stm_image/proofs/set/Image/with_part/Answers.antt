use Rattle.std.proofs.Common.{length, arith}
use Rattle.stm_image.proofs.Parting.{behind_all}
use Rattle.stm_image.proofs.set.Image.with_part.Goals as goal

pub add_part-requires-clause-behind : goal.add_part-requires-clause-behind
add_part-requires-clause-behind c =
    let runs = c.self.inside.runs in
    behind_all runs.bytes.items 0 (length runs.bytes.items) 0 c.args.start runs.list.items c.self.invariant.stand (omega arith) (omega arith)
    (rw (← c.self.view_is) at c.requires.behind)
