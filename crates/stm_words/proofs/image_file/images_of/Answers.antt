use Rattle.std.proofs.Common.{ℕ, ◌+◌, List, [], ◌∷◌, ◌++◌, map, take, sym, subst, ap, ◌∙◌}
use Rattle.std.proofs.lemmas.List.{map-append, take_more}
use Rattle.stm_words.specs.Images.{AreImagesNamed}
use Rattle.stm_words.specs.declared.image_file.ImageFile.{ImageFile}
use Rattle.stm_words.proofs.NamedImages.{named_more}
use Rattle.stm_words.proofs.image_file.images_of.Goals as goal

pub loop-word-preserved : goal.loop-word-preserved
loop-word-preserved c =
    let before : List (List ℕ) = map (λ w. w.now) (take c.loop-word.word-index c.args.words.now) in
    let more = named_more c.args.is_raw c.args.range before c.loop-word.images.items _ c.named.result c.loop-word.invariant c.named.ensures in
    let words = ap (map (λ w. w.now)) (take_more c.args.words.now c.loop-word.word-index _ c.loop-word-test.true)
    ∙ map-append (λ w. w.now) (take c.loop-word.word-index c.args.words.now) _ in
    let images : List ImageFile = c.loop-word.images.items ++ c.named.result ∷ [] in
    subst (λ (images : List ImageFile). AreImagesNamed c.args.is_raw c.args.range (map (λ w. w.now) (take (c.loop-word.word-index + 1) c.args.words.now)) images) (sym c.in_ok-push.ensures.items)
    (subst (λ ws. AreImagesNamed c.args.is_raw c.args.range ws images) (sym words) more)
