-- Bytes of a set that stand together.
use Rattle.std.specs.Prelude.{ℕ, ◌≡◌, ◌<◌, ◌≤◌, List, ◌++◌, length, Contains}
use Rattle.stm_image.specs.Pairs.{Pairs, raw_pairs}

-- bytes at consecutive addresses, from the least place of the set at or after an address on
pub record IsRunFrom (set : Pairs) (address start : ℕ) (bytes : List ℕ) : Type 0 where
  pub front : Pairs
  pub back : Pairs
  pub whole : set ≡ front ++ (raw_pairs start bytes ++ back)
  pub before : (q : ℕ × ℕ) → Contains front q → q.0 < address
  pub from : address ≤ start
  pub some : 0 < length bytes
