use Rattle.std.proofs.Common.{map, take}
use Rattle.clap.specs.Words.{App}
use Rattle.stm_words.specs.CommandSet.{Makes, rule_for, with_rules}
use Rattle.stm_words.proofs.command_set.with_words.Given as goal

-- the words so far
abbrev pub invariant-loop-word : goal.invariant-loop-word
invariant-loop-word l = (a : App) → Makes a l.fn.command → Makes (with_rules a (map rule_for (take l.word-index l.words))) l.made
