use Rattle.std.proofs.Common.{sym, arith}
use Rattle.stm_image.proofs.laying.first_other.Goals as goal

pub bounds-bytes-i : goal.bounds-bytes-i
bounds-bytes-i c = let other = c.if-i-bytes.false in omega (arith, c.loop-i.invariant.within, other)

pub returns-then-bytes-i : goal.returns-then-bytes-i
returns-then-bytes-i c =
    let other = c.if-i-bytes.false in
    let kept = c.loop-i.invariant in
    record { in_first = c.loop-i-test.true; in_second = omega (arith, kept.within, other); differs = λ e. c.if-bytes-i.true (sym e); before = kept.same }
