use Rattle.std.proofs.Common.{ℕ, ◌+◌, List, ◌++◌, map, take, sym, subst, ap, ◌∙◌}
use Rattle.std.proofs.lemmas.List.{map-append, take_more}
use Rattle.stm_words.specs.Pages.{NameAll}
use Rattle.stm_words.proofs.NamedPages.{name_more}
use Rattle.stm_words.proofs.pages.pages_of.Goals as goal

pub loop-word-preserved : goal.loop-word-preserved
loop-word-preserved c =
    let added = c.in_ok-add_pages.ensures in
    let before : List (List ℕ) = map (λ w. w.now) (take c.loop-word.word-index c.args.words.now) in
    let all = name_more before _ c.loop-word.pages.items added.0 c.loop-word.invariant added.1 in
    let words = ap (map (λ w. w.now)) (take_more c.args.words.now c.loop-word.word-index _ c.loop-word-test.true)
    ∙ map-append (λ w. w.now) (take c.loop-word.word-index c.args.words.now) _ in
    subst (NameAll (map (λ w. w.now) (take (c.loop-word.word-index + 1) c.args.words.now))) (sym added.2)
    (subst (λ ws. NameAll ws (c.loop-word.pages.items ++ added.0)) (sym words) all)
