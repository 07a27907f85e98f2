-- The next place decides, where the address has 32 bits.
use Rattle.std.proofs.Common.{◌≡◌, rules}
use Rattle.stm_chip.proofs.Touching.{from_found}
use Rattle.stm_chip.proofs.touch.has_from.Goals as goal

pub returns-in-Ok : goal.returns-in-Ok
returns-in-Ok c =
    let same : c.in-Ok.address ≡ c.args.address = search (rules, c.in-Ok.ensures) in
    rw (c.is_some.ensures, ← same) (from_found c.args.image.now c.in-Ok.address c.next_from.result c.next_from.ensures)
