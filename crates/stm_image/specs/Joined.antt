-- Several images as one.
use Rattle.std.specs.Prelude.{ℕ, ◌≡◌, ◌≢◌, ◌<◌, List, [], ◌∷◌, ◌++◌, IfSome, Some, slice_get}
use Rattle.stm_image.specs.Pairs.{Pairs, AddressesRise, byte_at}
use Rattle.stm_image.specs.declared.faults.Unjoined.{Unjoined}
use Rattle.stm_image.specs.declared.faults.Unjoined.TheVariants.{Differ, Memory}

-- the pairs of images, one image behind the other
abbrev pub all_pairs_of : List Pairs → Pairs
all_pairs_of [] = []
all_pairs_of (image ∷ images) = image ++ all_pairs_of images

-- two sets have another byte at an address
pub record DifferIn (one other : Pairs) (address : ℕ) : Type 0 where
  pub byte : ℕ
  pub another : ℕ
  pub held : byte_at one address ≡ Some byte
  pub held_too : byte_at other address ≡ Some another
  pub differs : byte ≢ another

-- one of these images does so, and one before it
pub record DifferAt (images : List Pairs) (first second address : ℕ) : Type 0 where
  pub one : Pairs
  pub other : Pairs
  pub earlier : first < second
  pub is_one : slice_get images first ≡ Some one
  pub is_other : slice_get images second ≡ Some other
  pub differ : DifferIn one other address

-- why these images aren't one
abbrev pub AreUnlike : List Pairs → Unjoined → Type 0
AreUnlike images (Differ first second address) = DifferAt images first second address
AreUnlike images Memory = Unit {0}

-- an image doesn't differ from any before it
pub record IsLikeAll (images : List Pairs) (second : ℕ) : Type 0 where
  pub rises : IfSome (slice_get images second) AddressesRise
  pub alike : (first address : ℕ) → ¬ DifferAt images first second address
