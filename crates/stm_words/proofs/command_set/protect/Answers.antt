use Rattle.std.proofs.Common.{List, [], ◌∷◌, codes}
use Rattle.std.proofs.lemmas.Result.{IfOk-weaker}
use Rattle.clap.specs.Words.{App, Rule}
use Rattle.stm_words.specs.CommandSet.{flag_rule, kind_rule, on_board, with_rules}
use Rattle.stm_words.proofs.Subcommands.{adds}
use Rattle.stm_words.proofs.command_set.protect.Goals as goal

pub returns : goal.returns
unfolding with_rules
returns c =
    let rule = c.kind.ensures.rule in
    let flags : List Rule = flag_rule (codes "yes") ∷ flag_rule (codes "in-session") ∷ [] in
    let a : App = on_board c.args.environment (codes "protect") in
    IfOk-weaker c.arg.result _ _
    (λ r h. (
      rule.0,
      adds (with_rules a flags) (kind_rule rule.0) c.in_ok-with_words.field-0 c.kind.result r (c.in_ok-with_words.ensures a c.in_ok-protect.ensures) rule.1 c.kind.ensures.local h,
      rule.2,
    ))
    c.arg.ensures
