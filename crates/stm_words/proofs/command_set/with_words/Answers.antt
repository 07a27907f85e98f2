use Rattle.std.proofs.Common.{List, ◌+◌, ◌++◌, ◌∷◌, [], ◌∙◌, map, take, ap, sym, subst}
use Rattle.std.proofs.lemmas.List.{map-append, take_all, take_more}
use Rattle.stm_words.specs.CommandSet.{Makes, rule_for, with_rules}
use Rattle.stm_words.proofs.Subcommands.{adds, rules_more}
use Rattle.stm_words.proofs.command_set.with_words.Goals as goal

pub loop-word-init : goal.loop-word-init
unfolding with_rules
loop-word-init c = λ a m. m

pub loop-word-preserved : goal.loop-word-preserved
loop-word-preserved c = λ a m.
    let before = take c.loop-word.word-index c.args.words.now in
    let more = adds (with_rules a (map rule_for before)) _ c.loop-word.made c.argument.result c.in_ok-made.made (c.loop-word.invariant a m) c.argument.ensures.rule c.argument.ensures.local c.in_ok-made.ensures in
    let words = ap (map rule_for) (take_more c.args.words.now c.loop-word.word-index _ c.loop-word-test.true)
    ∙ map-append rule_for before _ in
    subst (λ rules. Makes (with_rules a rules) c.in_ok-made.made) (sym words)
    (subst (λ app. Makes app c.in_ok-made.made) (sym (rules_more a (map rule_for before) _)) more)

pub returns : goal.returns
returns c = λ a m.
    subst (λ words. Makes (with_rules a (map rule_for words)) c.loop-word.made)
    (take_all c.loop-word.word-index c.args.words.now c.loop-word-test.false) (c.loop-word.invariant a m)
