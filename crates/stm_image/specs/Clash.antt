-- Where pairs first disagree.
use Rattle.std.specs.Prelude.{ℕ, ◌≡◌, ◌<◌, ◌≤◌, ◌+◌, ◌⊎◌, List, length, take, slice_index, Contains}
use Rattle.std.specs.Prelude.{Some}
use Rattle.stm_image.specs.Pairs.{Pairs, Agree, byte_at}

-- the pairs before a place agree, and no more once the pair there is among them
pub record IsClash (pairs : Pairs) (place : ℕ) : Type 0 where
  pub within : place < length pairs
  pub agree : Agree (take place pairs)
  pub differs : ¬ Agree (take (place + 1) pairs)

-- a set has a byte at so many addresses, from one on
abbrev pub Names : Pairs → ℕ → ℕ → Type 0
Names set address count = (i : ℕ) → i < count → (b : ℕ) × (byte_at set (address + i) ≡ Some b)

-- bytes were put over those of a set, from an address on
pub record IsPutOver (set : Pairs) (address : ℕ) (bytes : List ℕ) (new : Pairs) : Type 0 where
  pub inside : (i : ℕ) → i < length bytes → byte_at new (address + i) ≡ Some (slice_index bytes i)
  pub outside : (a : ℕ) → (a < address) ⊎ (address + length bytes ≤ a)
      → byte_at new a ≡ byte_at set a

-- a set has a byte at the address of each of these pairs
abbrev pub HasAll : Pairs → Pairs → Type 0
HasAll set pairs = (q : ℕ × ℕ) → Contains pairs q → (b : ℕ) × (byte_at set q.0 ≡ Some b)

-- it has the byte of the first of them that names the address
abbrev pub HasFirsts : Pairs → Pairs → Type 0
HasFirsts set pairs = (q : ℕ × ℕ) → Contains pairs q → byte_at set q.0 ≡ byte_at pairs q.0
