use Rattle.std.proofs.Common.{◌≡◌, ◌+◌, ◌++◌, ap, ◌∙◌, sym, take}
use Rattle.std.proofs.lemmas.List.{take_more}
use Rattle.stm_image.specs.Joined.{all_pairs_of}
use Rattle.stm_image.specs.Pairs.{Pairs}
use Rattle.stm_image.proofs.Alike.{all_pairs_of-snoc}
use Rattle.stm_image.proofs.joining.pieces_of.Goals as goal

pub loop-image-preserved : goal.loop-image-preserved
loop-image-preserved c =
    let images = c.args.images.now in
    let n = c.loop-image.image-index in
    let image = c.image-item.result in
    let inv = c.loop-image.invariant in
    let added = c.in_ok-add_runs.ensures in
    let one : all_pairs_of (take (n + 1) images) ≡ all_pairs_of (take n images) ++ image =
    ap all_pairs_of (take_more images n image c.loop-image-test.true) ∙ all_pairs_of-snoc (take n images) _ ∙ ap (λ (ps : Pairs). all_pairs_of (take n images) ++ ps) (sym c.image-item.is) in
    (added.stand, added.pairs ∙ ap (λ (ps : Pairs). ps ++ image) inv.1 ∙ sym one)
