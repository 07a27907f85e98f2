-- Images as words name them: `NAME@RANGE` lies in this part of the flash.
use Rattle.std.specs.Prelude.{◌≡◌, ◌⊎◌, ◌==◌, ℕ, Bool, true, false, List, [], ◌∷◌, ◌++◌, length, Option, Some, None}
use Rattle.std.specs.Str.{NoCharPasses}
use Rattle.stm_words.specs.declared.image_file.ImageFile.{ImageFile}
use Rattle.stm_words.specs.declared.range.Range.{Range}
use Rattle.stm_words.specs.Given.{range_of}

-- no character of a text is an `@`
abbrev pub HasNoAt : List ℕ → Type 0
HasNoAt text = NoCharPasses (λ c. c == 64) text

-- a word is a name, its last `@`, and a place
pub record IsCutAtLast (word name place : List ℕ) : Type 0 where
  pub parted : word ≡ name ++ 64 ∷ place
  pub last : HasNoAt place

-- The file and the part of a flash that such a word names: its own part, or, where it has none, that of
-- all. Nothing behind the `@` leaves the name before it; else all is the name.
abbrev pub named_by : List ℕ → List ℕ → Option Range → Bool → Option Range → List ℕ × Option Range
named_by word name (Some own) is_bare range = (name, Some own)
named_by word name None true range = (name, range)
named_by word name None false range = (word, range)

abbrev pub NamesFile : List ℕ → Option Range → List ℕ × Option Range → Type 0
NamesFile word range said = (HasNoAt word × (said ≡ (word, range)))
    ⊎ ((name place : List ℕ) × IsCutAtLast word name place
    × (said ≡ named_by word name (range_of place) (length place == 0) range))

-- the image that a word names
pub record IsImageNamed (is_raw : Bool) (range : Option Range) (word : List ℕ) (image : ImageFile) : Type 0 where
  pub raw : image.is_raw ≡ is_raw
  pub names : NamesFile word range (image.name.now, image.range)

-- those that words name, in their order
abbrev pub AreImagesNamed : Bool → Option Range → List (List ℕ) → List ImageFile → Type 0
AreImagesNamed is_raw range [] [] = Unit {0}
AreImagesNamed is_raw range (word ∷ words) (image ∷ images) =
    IsImageNamed is_raw range word image × AreImagesNamed is_raw range words images
AreImagesNamed is_raw range _ _ = ⊥
