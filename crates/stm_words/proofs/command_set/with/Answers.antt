use Rattle.std.proofs.Common.{IfOk, subst}
use Rattle.std.proofs.lemmas.Result.{IfOk-weaker}
use Rattle.stm_words.specs.CommandSet.{Makes}
use Rattle.stm_words.proofs.Subcommands.{adds_sub}
use Rattle.stm_words.proofs.command_set.with.Goals as goal

pub returns : goal.returns
returns c = λ a b made more.
    let makes : Makes b c.in_ok-more.field-0 = subst (λ it. IfOk it (Makes b)) c.in_ok-more.was more in
    IfOk-weaker c.subcommand.result _ _
    (λ r h. adds_sub a b c.args.command c.in_ok-more.field-0 r made makes h) c.subcommand.ensures
