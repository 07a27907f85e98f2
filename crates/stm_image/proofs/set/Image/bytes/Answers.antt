use Rattle.std.proofs.Common.{map, ap, arith}
use Rattle.stm_image.specs.Pairs.{Pairs}
use Rattle.stm_image.proofs.Lying.{values_at}
use Rattle.stm_image.proofs.set.Image.bytes.Goals as goal

pub returns : goal.returns
returns c =
    let runs = c.self.inside.runs in
    let same = ap (λ (ps : Pairs). map (λ p. p.1) ps) c.self.view_is in
    let values = values_at runs.bytes.items 0 runs.list.items c.self.invariant.stand in
    search (arith, same, values, c.as_slice.ensures)
