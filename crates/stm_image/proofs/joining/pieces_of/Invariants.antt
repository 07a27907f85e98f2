use Rattle.std.proofs.Common.{◌≡◌, take}
use Rattle.stm_image.specs.Joined.{all_pairs_of}
use Rattle.stm_image.specs.Pieces.{AllStand, pairs_in}
use Rattle.stm_image.proofs.joining.pieces_of.Given as goal

-- the images so far were added
abbrev pub invariant-loop-image : goal.invariant-loop-image
invariant-loop-image l = AllStand l.pieces × (pairs_in l.pieces ≡ all_pairs_of (take l.image-index l.images))
