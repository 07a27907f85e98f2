use Rattle.std.proofs.Common.{inl, inr, map, subst}
use Rattle.stm_words.specs.Request.{AskForHelp, OnHelp}
use Rattle.stm_words.specs.declared.unread.Unread.{Unread}
use Rattle.stmflash.proofs.program.program.Goals as goal

pub returns-in-Ok-clause-well : goal.returns-in-Ok-clause-well
returns-in-Ok-clause-well g c = λ zero. inl (record {
  request = c.in-Ok.request;
  asked = c.in-Ok.ensures.asked;
  confirmed = c.answer.ensures.confirmed zero;
  is_json = c.is_json_wanted-is_json.result;
  json = c.is_json_wanted-is_json.ensures;
  done = c.answer.ensures.done zero;
})

pub returns-in-Err-Help-clause-well : goal.returns-in-Err-Help-clause-well
returns-in-Err-Help-clause-well g c = λ zero.
    let P : Unread → Type 0 = λ u. OnHelp u (AskForHelp c.args.environment (map (λ s. s.now) c.args.words.now)) in
    inr (subst P c.in-Err-Help.field-0-is c.in-Err-Help.ensures.help, (_, c.print_help.ensures zero))
