-- Only the place of the chip's id has another chip.
use Rattle.std.proofs.Common.{IsSomeAnd, slice_get, ◌≡◌}
use Rattle.stm_chip.proofs.Replacing.{own_ids, in_place}
use Rattle.stm_chip.proofs.table.Table.with_chip_at.Goals as goal

pub invariant_of-result : goal.invariant_of-result
invariant_of-result c =
    let chips = c.self.inside.chips.items in
    let holds : IsSomeAnd (slice_get chips c.args.place) (λ other. other.id ≡ c.args.chip.id) =
    rw (← c.self.view_is) at c.requires in
    own_ids chips c.args.place c.args.chip c.self.invariant holds

pub returns : goal.returns
returns c =
    let chips = c.self.inside.chips.items in
    let holds : IsSomeAnd (slice_get chips c.args.place) (λ other. other.id ≡ c.args.chip.id) =
    rw (← c.self.view_is) at c.requires in
    rw (← c.self.view_is) (in_place chips c.args.place c.args.chip c.self.invariant holds)
