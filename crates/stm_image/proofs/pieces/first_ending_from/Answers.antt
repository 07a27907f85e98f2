use Rattle.std.proofs.Common.{rules}
use Rattle.std.specs.Prelude.{nat_lt}
use Rattle.std.proofs.lemmas.Bool.{ltb-true, ltb-false}
use Rattle.std.proofs.lemmas.List.Sorted.{IsPartitionedBy-ltb, IsPartitionPoint-from_clause}
use Rattle.stm_image.specs.declared.pieces.Piece.{Piece}
use Rattle.stm_image.proofs.pieces.first_ending_from.Goals as goal

pub returns-clause-before : goal.returns-clause-before
returns-clause-before c =
    let list = c.args.list.now in
    let place = c.partition_point.result in
    let low = λ (p : Piece). nat_lt p.last c.args.address in
    let parted = IsPartitionPoint-from_clause low list place c.partition_point.ensures.partitioned (IsPartitionedBy-ltb (λ (p : Piece). p.last) list c.args.address c.requires) (λ a r q k. search rules) in
    λ k d from lt. ltb-true _ _ (parted.0 k d from lt)

pub returns-clause-here : goal.returns-clause-here
returns-clause-here c =
    let list = c.args.list.now in
    let place = c.partition_point.result in
    let low = λ (p : Piece). nat_lt p.last c.args.address in
    let parted = IsPartitionPoint-from_clause low list place c.partition_point.ensures.partitioned (IsPartitionedBy-ltb (λ (p : Piece). p.last) list c.args.address c.requires) (λ a r q k. search rules) in
    λ k d from lt. ltb-false _ _ (parted.1 k d from lt)
