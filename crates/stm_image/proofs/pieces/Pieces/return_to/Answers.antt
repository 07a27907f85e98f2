use Rattle.std.proofs.Common.{◌≡◌, ◌-◌, ◌+◌, ◌++◌, ◌∷◌, [], List, length, take, ap, ◌∙◌, arith}
use Rattle.std.proofs.lemmas.List.{length-take}
use Rattle.stm_image.proofs.Standing.{last_set, take_shorter}
use Rattle.stm_image.proofs.pieces.Pieces.return_to.Goals as goal

pub returns-then-mark-gt0 : goal.returns-then-mark-gt0
returns-then-mark-gt0 c =
    let old = c.args.self.now in
    let mark = c.args.mark in
    let n = mark.count - 1 in
    let some = c.if-mark-gt0.true in
    let kept = c.truncate-2.ensures.items in
    let long = length-take mark.count old.list.items in
    let same = ap (λ (l : List _). length l) kept in
    let count : n + 1 ≡ length c.truncate-2.new.self.items = omega (arith, c.requires, some, long, same) in
    record {
      bytes = c.truncate.ensures.items;
      none = λ none. absurd (omega (arith, some, none));
      list = λ _. last_set c.truncate-2.new.self.items n mark.last count ∙ ap (λ (l : List _). take n l ++ mark.last ∷ []) kept ∙ ap (λ (l : List _). l ++ mark.last ∷ []) (take_shorter n mark.count old.list.items (omega arith));
    }
