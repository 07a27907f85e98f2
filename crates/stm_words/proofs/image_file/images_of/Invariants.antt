use Rattle.std.proofs.Common.{map, take}
use Rattle.stm_words.specs.Images.{AreImagesNamed}
use Rattle.stm_words.proofs.image_file.images_of.Given as goal

-- the words so far
abbrev pub invariant-loop-word : goal.invariant-loop-word
invariant-loop-word l = AreImagesNamed l.is_raw l.range (map (λ w. w.now) (take l.word-index l.words)) l.images.items
