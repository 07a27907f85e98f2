use Rattle.std.proofs.Common.{length, sym, subst, List, ℕ, ◌++◌, drop, replicate}
use Rattle.stm_wire.proofs.Names.{AreFields}
use Rattle.stm_wire.proofs.UniqueIds.{held-fields}
use Rattle.stm_wire.proofs.unique_id.UniqueId.of.Goals as goal

-- src/unique_id.rt:53:9
pub invariant_of-result : goal.invariant_of-result
invariant_of-result c =
    let id : List ℕ = c.args.bytes.now in
    let zeros : List ℕ = drop (length id) (replicate 32 0) in
    subst
    (λ (held : List ℕ). AreFields (record { bytes = held ++ zeros; length = length id }))
    (sym c.copy_from_slice.ensures.after)
    (held-fields id c.if-bytes-lt8.false c.if-bytes-gt32.false c.type_inv.bytes)
