use Rattle.std.proofs.Common.{refl, ◌∙◌}
use Rattle.stmflash.proofs.first_question.take_wanted.Goals as goal

pub returns : goal.returns
returns g c = record {
  board = c.args.wanted;
  journal = c.as_str.result;
  named = c.as_str.ensures.value ∙ c.in_ok-place.ensures;
  options = refl;
}
