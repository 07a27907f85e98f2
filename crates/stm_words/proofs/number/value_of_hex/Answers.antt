-- Fewer than 8 digits write a number below 16 ^ 7, and 8 one below 16 ^ 8.
use Rattle.std.proofs.Common.{◌≤◌, ◌^◌, arith, ℕ}
use Rattle.std.proofs.Math.Nat.{pow-le-pow_right}
use Rattle.stm_words.proofs.number.value_of_hex.Goals as goal

power-le : {i j : ℕ} → i ≤ j → 16 ^ i ≤ 16 ^ j
power-le h = pow-le-pow_right (omega arith) h

pub overflow_mul-n : goal.overflow_mul-n
overflow_mul-n c =
    let few : c.loop-c.c-index ≤ 8 = omega (arith, c.loop-c-test.true, c.requires.few) in
    omega (arith, c.loop-c.invariant.1, power-le few)

pub overflow_add-n : goal.overflow_add-n
overflow_add-n c =
    let few : c.loop-c.c-index ≤ 8 = omega (arith, c.loop-c-test.true, c.requires.few) in
    omega (arith, c.loop-c.invariant.1, power-le few, c.digit_value.ensures.small)

pub returns-clause-small : goal.returns-clause-small
returns-clause-small c =
    let few : c.loop-c.c-index ≤ 8 = omega (arith, c.loop-c.auto.c-index-end, c.requires.few) in
    omega (arith, c.loop-c.invariant.1, power-le few)
