use Rattle.std.proofs.Common.{sym, ◌∙◌, arith}
use Rattle.std.proofs.lemmas.List.Sums.{prefix_len_is}
use Rattle.stm_image.specs.Record.{is_blank}
use Rattle.stm_image.proofs.scan.leading_blanks.Goals as goal

pub returns-then-not-is_space-clause-value : goal.returns-then-not-is_space-clause-value
returns-then-not-is_space-clause-value c =
    sym (prefix_len_is is_blank c.args.text.now c.loop-i.i 0 (omega arith) c.loop-i.invariant (λ lt. sym c.is_space.ensures ∙ c.if-not-is_space.true))

pub returns-clause-value : goal.returns-clause-value
returns-clause-value c =
    sym (prefix_len_is is_blank c.args.text.now _ 0 (omega arith) (λ k lt. c.loop-i.invariant k (omega arith)) (λ lt. absurd (omega arith)))
