-- A unique id as it stands in memory.
use Rattle.std.specs.Prelude.{◌≡◌, ℕ, ◌-◌, ◌≤◌, List, ◌++◌, length, take, replicate}
use Rattle.stm_wire.specs.declared.unique_id.UniqueId.TheInside.{Inside}
use Rattle.stm_wire.specs.UniqueId.{IsUniqueId}

abbrev pub id_bytes_told : Inside → List ℕ
id_bytes_told u = take u.length u.bytes

-- with zeros behind, 32 bytes in all
abbrev pub filled_up : List ℕ → List ℕ
filled_up bytes = bytes ++ replicate (32 - length bytes) 0

abbrev pub fields_of : List ℕ → Inside
fields_of bytes = record { bytes = filled_up bytes; length = length bytes }

pub record AreFields (u : Inside) : Type 0 where
  pub within : u.length ≤ length u.bytes
  pub bytes : u.bytes ≡ filled_up (id_bytes_told u)
  pub told : IsUniqueId (id_bytes_told u)
