use Rattle.std.proofs.Common.{◌+◌, ◌∙◌, drop, subst, sym, take}
use Rattle.std.proofs.lemmas.List.{take-append-drop}
use Rattle.stm_image.specs.Clash.{IsClash}
use Rattle.stm_image.specs.Pairs.{Agree}
use Rattle.stm_image.specs.Pieces.{pairs_in}
use Rattle.stm_image.proofs.Conflicting.{agree_front}
use Rattle.stm_image.proofs.joining.join.Goals as goal

pub first_unlike_two-requires : goal.first_unlike_two-requires
first_unlike_two-requires c agree =
    let pairs = pairs_in c.in-Ok.pieces in
    let n = c.in-Err._place + 1 in
    let clash : IsClash pairs c.in-Err._place = rw c.in-Err.is at c.in-Ok-set_of.ensures in
    clash.differs (agree_front (take n pairs) (drop n pairs) (subst Agree (sym c.in-Ok.ensures.pairs ∙ sym (take-append-drop n pairs)) agree))
