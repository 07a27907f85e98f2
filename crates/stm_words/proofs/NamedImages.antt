-- The image of one word more.
use Rattle.std.proofs.Common.{Bool, List, [], ◌∷◌, ◌++◌, ℕ, Option}
use Rattle.stm_words.specs.Images.{AreImagesNamed, IsImageNamed}
use Rattle.stm_words.specs.declared.image_file.ImageFile.{ImageFile}
use Rattle.stm_words.specs.declared.range.Range.{Range}

pub named_more : (is_raw : Bool) (range : Option Range) (words : List (List ℕ)) (images : List ImageFile) (word : List ℕ) (image : ImageFile)
    → AreImagesNamed is_raw range words images → IsImageNamed is_raw range word image → AreImagesNamed is_raw range (words ++ word ∷ []) (images ++ image ∷ [])
named_more is_raw range [] [] word image all one = (one, tt)
named_more is_raw range (first ∷ words) (its ∷ images) word image all one = (all.0, named_more is_raw range words images word image all.1 one)
named_more is_raw range [] (its ∷ images) word image all one = absurd all
named_more is_raw range (first ∷ words) [] word image all one = absurd all
