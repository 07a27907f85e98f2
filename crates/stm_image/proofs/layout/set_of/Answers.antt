use Rattle.std.proofs.Common.{length, sym, subst}
use Rattle.stm_image.specs.Pairs.{Pairs, IsSetOf}
use Rattle.stm_image.specs.Pieces.{pairs_in}
use Rattle.stm_image.proofs.Lying.{rises_apart}
use Rattle.stm_image.proofs.Sets.{set_rising, agree_from_set}
use Rattle.stm_image.proofs.layout.set_of.Goals as goal

-- the pieces are apart already
pub returns-then-are_apart : goal.returns-then-are_apart
returns-then-are_apart c =
    let pieces = c.args.pieces in
    let apart = rw c.as_slice.ensures.value at (c.are_apart.ensures c.if-are_apart.true) in
    let rises = rises_apart pieces.bytes.items 0 (length pieces.bytes.items) 0 pieces.list.items c.requires apart in
    let P : Pairs → Type 0 = λ set. IsSetOf set (pairs_in pieces) in
    let is : P c.from_runs.result = subst P (sym c.from_runs.ensures) (set_rising (pairs_in pieces) rises) in
    (is, agree_from_set _ (pairs_in pieces) is)
