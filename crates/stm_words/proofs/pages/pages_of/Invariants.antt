use Rattle.std.proofs.Common.{map, take}
use Rattle.stm_words.specs.Pages.{NameAll}
use Rattle.stm_words.proofs.pages.pages_of.Given as goal

-- the words so far
abbrev pub invariant-loop-word : goal.invariant-loop-word
invariant-loop-word l = NameAll (map (λ w. w.now) (take l.word-index l.words)) l.pages.items
