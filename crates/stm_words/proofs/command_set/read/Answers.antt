use Rattle.std.proofs.Common.{codes}
use Rattle.stm_words.specs.CommandSet.{on_board}
use Rattle.stm_words.proofs.command_set.read.Goals as goal

pub returns : goal.returns
returns c = c.with_words.ensures (on_board c.args.environment (codes "read")) c.in_ok-read.ensures
