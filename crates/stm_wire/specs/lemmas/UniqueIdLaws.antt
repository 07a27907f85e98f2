-- The bytes of a unique id give its fields back.
use Rattle.std.proofs.Common.{◌≡◌, ℕ, List, length, sym, ap, ◌∙◌}
use Rattle.std.proofs.lemmas.List.{length-take-le}
use Rattle.stm_wire.specs.declared.unique_id.UniqueId.TheInside.{Inside}
use Rattle.stm_wire.specs.UniqueIdFields.{id_bytes_told, fields_of, AreFields}

inside : List ℕ → ℕ → Inside
inside bytes length = record { bytes = bytes; length = length }

pub fields-back : (u : Inside) → AreFields u → fields_of (id_bytes_told u) ≡ u
unfolding inside
fields-back u h =
    ap (λ (bytes : List ℕ). inside bytes (length (id_bytes_told u))) (sym h.bytes)
    ∙ ap (inside u.bytes) (length-take-le u.length u.bytes h.within)
