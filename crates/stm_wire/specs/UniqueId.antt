-- The number that a device alone has.
use Rattle.std.specs.Prelude.{◌≡◌, ◌⊎◌, ℕ, ◌<◌, Bool, ◌&&◌, nat_le, List, [], length, All, IsTrue}

-- how many bytes one has
abbrev pub is_unique_length : ℕ → Bool
is_unique_length n = nat_le 8 n && nat_le n 32

-- its bytes, or none where the device told none
pub record IsUniqueId (id : List ℕ) : Type 0 where
  pub length : (id ≡ []) ⊎ IsTrue (is_unique_length (length id))
  pub bytes : All (λ byte. byte < 256) id
