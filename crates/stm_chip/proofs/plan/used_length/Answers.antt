-- Each byte is used or not.
use Rattle.std.proofs.Common.{refl, arith}
use Rattle.std.proofs.lemmas.Bool.Decides.{nat_tests}
use Rattle.stm_chip.specs.Plan.{used_length}
use Rattle.stm_chip.proofs.Programming.{used_at}
use Rattle.stm_chip.proofs.plan.used_length.Goals as goal
use Rattle.stm_chip.proofs.plan.used_length.Goals.{then-byte-erased, else-byte-erased}

pub loop-place-init : goal.loop-place-init
unfolding used_length
loop-place-init c = (refl, omega arith)

pub loop-place-preserved : goal.loop-place-preserved
loop-place-preserved c =
    let more = used_at c.args.erased c.args.block.now c.loop-place.place c.loop-place-test.true in
    elim c.if-byte-erased.branch [ then-byte-erased w ↦ grind (arith, nat_tests) | else-byte-erased w ↦ grind (arith, nat_tests) ]
