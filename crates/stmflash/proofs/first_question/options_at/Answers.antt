use Rattle.std.proofs.Common.{refl, ◌∙◌}
use Rattle.stmflash.proofs.first_question.options_at.Goals as goal

pub returns : goal.returns
returns c = λ unique journal board. record {
  board = unique;
  journal = c.as_str.result;
  named = c.as_str.ensures.value ∙ journal;
  digits = c.as_str-2.result;
  wanted = c.as_str-2.ensures.value ∙ board;
  options = refl;
}
