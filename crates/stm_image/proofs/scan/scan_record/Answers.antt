use Rattle.std.proofs.Common.{◌∙◌, sym}
use Rattle.stm_image.proofs.Digits.{scan_none, scan_colon, scan_other}
use Rattle.stm_image.proofs.scan.scan_record.Goals as goal

pub returns-in-None-clause-value : goal.returns-in-None-clause-value
returns-in-None-clause-value c = sym (scan_none _ _ c.leading_blanks.ensures.value c.in-None.ensures.cases)

pub returns-then-first-eq58-clause-value : goal.returns-then-first-eq58-clause-value
returns-then-first-eq58-clause-value c =
    c.read_digits.ensures.value ∙ sym (scan_colon _ _ c.leading_blanks.ensures.value _ _ c.in-Some.ensures.cases.0 c.if-first-eq58.true)

pub returns-else-first-eq58-clause-value : goal.returns-else-first-eq58-clause-value
returns-else-first-eq58-clause-value c =
    sym (scan_other _ _ c.leading_blanks.ensures.value _ _ c.in-Some.ensures.cases.0 c.if-first-eq58.false)
