use Rattle.std.proofs.Common.{◌≡◌, length, ap, arith}
use Rattle.stm_image.specs.Pairs.{Pairs}
use Rattle.stm_image.specs.Pieces.{pairs_at}
use Rattle.stm_image.proofs.Lying.{length-pairs_at}
use Rattle.stm_image.proofs.set.Image.len.Goals as goal

pub returns-clause-count : goal.returns-clause-count
returns-clause-count c =
    let runs = c.self.inside.runs in
    let all = length-pairs_at runs.bytes.items 0 (length runs.bytes.items) runs.list.items c.self.invariant.stand (omega arith) in
    let count : length (pairs_at runs.bytes.items runs.list.items) ≡ length c.args.self.now = ap (λ (ps : Pairs). length ps) c.self.view_is in
    omega (arith, all, count, c.len.ensures, runs.bytes.ok.0)
