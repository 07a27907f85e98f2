use Rattle.std.proofs.Common.{codes, subst}
use Rattle.stm_words.specs.CommandSet.{Makes, behind_a_stop, on_board}
use Rattle.stm_words.proofs.command_set.undo.Goals as goal

pub returns : goal.returns
returns c =
    c.with_words.ensures (on_board (behind_a_stop c.args.environment) (codes "undo"))
    (subst (λ e. Makes (on_board e (codes "undo")) c.in_ok-undo.undo) c.behind_a_stop.ensures c.in_ok-undo.ensures)
