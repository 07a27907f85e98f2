use Rattle.std.proofs.Common.{IfOk, subst}
use Rattle.clap.specs.Words.{new_app}
use Rattle.stm_words.specs.CommandSet.{Makes, board_rules, with_rules}
use Rattle.stm_words.proofs.command_set.on_board.Goals as goal

pub returns : goal.returns
unfolding with_rules
returns c =
    subst (λ wait. IfOk c.subcommand.result (Makes (with_rules (new_app c.args.name.now) (board_rules c.args.environment wait))))
    c.standing_wait-wait.ensures c.subcommand.ensures
