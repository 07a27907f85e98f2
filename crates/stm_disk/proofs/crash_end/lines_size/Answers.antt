use Rattle.std.proofs.Common.{◌==◌, ℕ, List, position, arith, ap, sym, ◌∙◌}
use Rattle.std.proofs.lemmas.List.{take_rest}
use Rattle.stm_disk.proofs.LineSizes.{next_line, no_line}
use Rattle.stm_disk.proofs.crash_end.lines_size.Goals as goal

pub returns-in-None-clause-size : goal.returns-in-None-clause-size
returns-in-None-clause-size c =
    no_line c.args.bytes.now c.args.lines c.loop-left.at c.loop-left.left (omega (arith, c.loop-left-test.true))
    c.loop-left.invariant.0 c.loop-left.invariant.1
    (ap (λ (xs : List ℕ). position (λ b. b == 10) xs) (sym (take_rest c.args.bytes.now c.loop-left.at))
    ∙ sym c.first_lf.ensures ∙ c.in-None.is)

pub loop-left-preserved : goal.loop-left-preserved
loop-left-preserved c =
    next_line c.args.bytes.now c.args.lines c.loop-left.at c.loop-left.left c.in-Some.lf (omega (arith, c.loop-left-test.true))
    c.loop-left.invariant.0 c.loop-left.invariant.1
    (ap (λ (xs : List ℕ). position (λ b. b == 10) xs) (sym (take_rest c.args.bytes.now c.loop-left.at))
    ∙ sym c.first_lf.ensures ∙ c.in-Some.is)
