use Rattle.std.proofs.Common.{◌≡◌, length, ap₂, subst}
use Rattle.stm_image.specs.Pairs.{Agree}
use Rattle.stm_image.specs.Pieces.{pairs_at, pairs_in}
use Rattle.stm_image.proofs.Lying.{stands_within}
use Rattle.stm_image.proofs.Running.{stand_read}
use Rattle.stm_image.proofs.clash.first_clash.Goals as goal

pub put_firsts-requires-clause-within : goal.put_firsts-requires-clause-within
put_firsts-requires-clause-within c p held =
    stands_within 0 (length c.as_slice-bytes.result.now) c.as_slice-list.result.now p (stand_read c.args.pieces.now c.as_slice-bytes.result.now c.as_slice-list.result.now c.as_slice-bytes.ensures.value c.as_slice-list.ensures.value c.requires.stand) held

pub clash_with-requires-clause-differs : goal.clash_with-requires-clause-differs
clash_with-requires-clause-differs c agree =
    let same : pairs_at c.as_slice-bytes.result.now c.as_slice-list.result.now ≡ pairs_in c.args.pieces.now = ap₂ pairs_at c.as_slice-bytes.ensures.value c.as_slice-list.ensures.value in
    c.requires.differs (subst Agree same agree)
