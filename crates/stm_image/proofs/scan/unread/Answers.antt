use Rattle.std.proofs.Common.{◌∙◌, sym, arith}
use Rattle.std.proofs.lemmas.List.Sums.{prefix_len-le-length}
use Rattle.hex.specs.Hex.{is_hex_digit}
use Rattle.stm_image.proofs.Digits.{scans_short, ends_cut, ends_broken}
use Rattle.stm_image.proofs.scan.unread.Goals as goal

pub returns-then-leading_digits-text-clause-value : goal.returns-then-leading_digits-text-clause-value
returns-then-leading_digits-text-clause-value c b =
    let text = c.args.text.now in
    let all = c.leading_digits.ensures.value in
    sym (scans_short text c.requires ∙ ends_cut text _ (sym all ∙ c.if-leading_digits-text.true))

pub returns-else-leading_digits-text-clause-value : goal.returns-else-leading_digits-text-clause-value
returns-else-leading_digits-text-clause-value c b =
    let text = c.args.text.now in
    let within = prefix_len-le-length is_hex_digit text in
    let all = c.leading_digits.ensures.value in
    sym (scans_short text c.requires ∙ ends_broken text _ (omega (arith, within, all, c.if-leading_digits-text.false)))
