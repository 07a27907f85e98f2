-- A set of addresses with a byte each, seen as its pairs by rising address.
use Rattle.std.specs.Prelude.{ℕ, ◌≡◌, ◌<◌, ◌≤◌, ◌^◌, ◌+◌, ◌↔◌, List, [], ◌∷◌, Option, Some, None}
use Rattle.std.specs.Prelude.{if◌then◌else◌, ◌==◌, Contains, All, AllPairs}

-- pairs of an address and its byte; those of an image stand by rising address
abbrev pub Pairs : Type 0
Pairs = List (ℕ × ℕ)

-- the addresses rise strictly, so each comes once
abbrev pub AddressesRise : Pairs → Type 0
AddressesRise pairs = AllPairs (λ p q. p.0 < q.0) pairs

-- an address of 32 bits, and a byte
abbrev pub InRange : ℕ × ℕ → Type 0
InRange p = (p.0 < 2 ^ 32) × (p.1 < 256)

-- what every image is
pub record IsImage (set : Pairs) : Type 0 where
  pub rises : AddressesRise set
  pub in_range : All InRange set

-- the byte at an address
abbrev pub byte_at : Pairs → ℕ → Option ℕ
byte_at [] address = None
byte_at ((a, b) ∷ rest) address = if a == address then Some b else byte_at rest address

-- no address has two bytes
abbrev pub Agree : Pairs → Type 0
Agree pairs = (a b c : ℕ) → Contains pairs (a, b) → Contains pairs (a, c) → b ≡ c

-- the set that has just these pairs
pub record IsSetOf (set pairs : Pairs) : Type 0 where
  pub rises : AddressesRise set
  pub same : (p : ℕ × ℕ) → Contains set p ↔ Contains pairs p

-- the least pair at or after an address
pub record IsNext (set : Pairs) (address : ℕ) (p : ℕ × ℕ) : Type 0 where
  pub held : Contains set p
  pub after : address ≤ p.0
  pub least : (q : ℕ × ℕ) → Contains set q → address ≤ q.0 → p.0 ≤ q.0

-- no pair stands at or after an address
abbrev pub HasNone : Pairs → ℕ → Type 0
HasNone set address = (q : ℕ × ℕ) → Contains set q → q.0 < address

-- bytes at rising addresses, from a start on
abbrev pub raw_pairs : ℕ → List ℕ → Pairs
raw_pairs start [] = []
raw_pairs start (b ∷ bytes) = (start, b) ∷ raw_pairs (start + 1) bytes
