use Rattle.stm_image.proofs.Lying.{is_image}
use Rattle.stm_image.proofs.set.Image.from_runs.Goals as goal

pub invariant_of-result : goal.invariant_of-result
invariant_of-result c =
    let given = c.requires in
    record { stand = given.stand; apart = given.apart; image = is_image c.args.runs.bytes.items _ c.args.runs.list.items given.stand given.apart (rw c.as_slice.ensures.value at c.are_bytes.ensures) }
