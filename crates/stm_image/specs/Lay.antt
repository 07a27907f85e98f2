-- A set laid over bytes, and where the two differ.
use Rattle.std.specs.Prelude.{ℕ, ◌≡◌, ◌≢◌, ◌<◌, ◌≤◌, ◌+◌, ◌-◌, List, [], ◌∷◌, length, slice_index}
use Rattle.std.specs.Prelude.{Option, Some, None}
use Rattle.stm_image.specs.Pairs.{Pairs, byte_at}

-- the byte of the set where it names the place, else the old one
abbrev pub laid_byte : Option ℕ → ℕ → ℕ
laid_byte (Some b) old = b
laid_byte None old = old

-- a set laid over bytes that stand from an address on
unfoldable pub lay : Pairs → ℕ → List ℕ → List ℕ
lay set address [] = []
lay set address (old ∷ rest) = laid_byte (byte_at set address) old ∷ lay set (address + 1) rest

-- the set names a place among bytes that stand from an address on, and has another byte there
pub record DiffersAt (set : Pairs) (address : ℕ) (bytes : List ℕ) (place : ℕ) : Type 0 where
  pub byte : ℕ
  pub held : byte_at set place ≡ Some byte
  pub from : address ≤ place
  pub within : place < address + length bytes
  pub differs : slice_index bytes (place - address) ≢ byte

-- the least place where the set has another byte
pub record IsFirstDifference (set : Pairs) (address : ℕ) (bytes : List ℕ) (place : ℕ) : Type 0 where
  pub here : DiffersAt set address bytes place
  pub first : (other : ℕ) → DiffersAt set address bytes other → place ≤ other

-- the set has no other byte than these, wherever it names their places
abbrev pub AgreesWith : Pairs → ℕ → List ℕ → Type 0
AgreesWith set address bytes = (place : ℕ) → ¬ DiffersAt set address bytes place

-- two lists have the same bytes, as far as both go
abbrev pub AreAlike : List ℕ → List ℕ → Type 0
AreAlike xs ys = (i : ℕ) → i < length xs → i < length ys → slice_index xs i ≡ slice_index ys i

-- the first place where they do not
pub record IsFirstOther (xs ys : List ℕ) (place : ℕ) : Type 0 where
  pub in_first : place < length xs
  pub in_second : place < length ys
  pub differs : slice_index xs place ≢ slice_index ys place
  pub before : (i : ℕ) → i < place → slice_index xs i ≡ slice_index ys i

-- bytes were put over others from a place on, as far as both go
pub record IsPutAt (from old : List ℕ) (skip : ℕ) (new : List ℕ) : Type 0 where
  pub same_length : length new ≡ length old
  pub over : (i : ℕ) → i < length from → skip + i < length old
      → slice_index new (skip + i) ≡ slice_index from i
  pub before : (i : ℕ) → i < skip → slice_index new i ≡ slice_index old i
  pub after : (i : ℕ) → skip + length from ≤ i → slice_index new i ≡ slice_index old i
