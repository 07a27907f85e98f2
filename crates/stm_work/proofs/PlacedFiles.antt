-- The image in one file more, and how many there are.
use Rattle.std.proofs.Common.{◌≡◌, List, [], ◌∷◌, ◌++◌, ap, length, refl, suc}
use Rattle.stm_image.specs.Pairs.{Pairs}
use Rattle.stm_wire.proofs.Names.{ChipData}
use Rattle.stm_words.specs.declared.image_file.ImageFile.{ImageFile}
use Rattle.stm_work.specs.Content.{ArePlacedOf, IsPlacedOf}

pub placed_more : (table : List ChipData) (files : List ImageFile) (sets : List Pairs) (file : ImageFile) (set : Pairs)
    → ArePlacedOf table files sets → IsPlacedOf table file set → ArePlacedOf table (files ++ file ∷ []) (sets ++ set ∷ [])
placed_more table [] [] file set all one = (one, tt)
placed_more table (first ∷ files) (its ∷ sets) file set all one = (all.0, placed_more table files sets file set all.1 one)
placed_more table [] (its ∷ sets) file set all one = absurd all
placed_more table (first ∷ files) [] file set all one = absurd all

pub as_many : (table : List ChipData) (files : List ImageFile) (sets : List Pairs) → ArePlacedOf table files sets → length files ≡ length sets
as_many table [] [] all = refl
as_many table (file ∷ files) (set ∷ sets) all = ap suc (as_many table files sets all.1)
as_many table [] (set ∷ sets) all = absurd all
as_many table (file ∷ files) [] all = absurd all
