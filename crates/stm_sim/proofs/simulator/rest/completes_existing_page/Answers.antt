use Rattle.std.proofs.Common.{◌≡◌, ◌%◌, ◌*◌, ◌+◌, ◌∙◌, ◌&&◌, sym, ap₂, nat_lt, arith, length}
use Rattle.stm_wire.proofs.Names.{all_exist, two_byte_numbers}
use Rattle.stm_sim.proofs.NamedPages.{first_exists, second_exists}
use Rattle.stm_sim.proofs.simulator.rest.completes_existing_page.Goals as goal

pub returns-then-numbers-eq0 : goal.returns-then-numbers-eq0
returns-then-numbers-eq0 c = first_exists c.args.chip.now c.args.numbers.now c.args.byte c.if-numbers-eq0.true

pub returns-else-numbers-eq0 : goal.returns-else-numbers-eq0
returns-else-numbers-eq0 c =
    let odd : length c.args.numbers.now % 2 ≡ 1 = omega arith in
    second_exists c.args.chip.now c.args.numbers.now c.args.byte odd
    ∙ ap₂ (λ n count. all_exist c.args.chip.now (two_byte_numbers c.args.numbers.now) && nat_lt n count)
    (sym (ap₂ (λ high low. high * 256 + low) c.from.ensures c.from-else-numbers-eq0.ensures)) (sym c.pages.ensures)
