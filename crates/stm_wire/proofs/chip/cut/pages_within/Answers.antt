use Rattle.std.proofs.Common.{◌≡◌, ◌≤◌, ◌<◌, length, get_or, arith, rules}
use Rattle.stm_wire.proofs.Cutting.{within-more, within-no_more, within-end}
use Rattle.stm_wire.proofs.chip.cut.pages_within.Goals as goal

pub returns-then-from-left : goal.returns-then-from-left
returns-then-from-left c =
    let sizes = c.args.sizes.now in
    let i = c.loop-size.size-index in
    let here : i < length sizes = search (rules, arith, c.loop-size-test.true) in
    let larger : c.loop-size.left < get_or sizes i 0 = search (rules, arith, c.if-from-left.true, c.from.ensures) in
    omega (arith, within-no_more sizes i c.loop-size.left here larger, c.loop-size.invariant.1)

pub loop-size-preserved : goal.loop-size-preserved
loop-size-preserved c =
    let sizes = c.args.sizes.now in
    let i = c.loop-size.size-index in
    let here : i < length sizes = search (rules, arith, c.loop-size-test.true) in
    let size : c.from-left.result ≡ get_or sizes i 0 = search (rules, arith, c.from-left.ensures) in
    let fits : get_or sizes i 0 ≤ c.loop-size.left = search (rules, arith, c.if-from-left.false, c.from.ensures) in
    let more = within-more sizes i c.loop-size.left here fits in
    (omega (arith, c.loop-size.invariant.0), rw size (omega (arith, more, c.loop-size.invariant.1)))

pub returns : goal.returns
returns c =
    let sizes = c.args.sizes.now in
    let i = c.loop-size.size-index in
    let past : length sizes ≤ i = search (rules, arith, c.loop-size-test.false) in
    omega (arith, within-end sizes i c.loop-size.left past, c.loop-size.invariant.1)
