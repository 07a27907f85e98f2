use Rattle.std.proofs.Common.{◌<◌, ◌∙◌, sym, arith}
use Rattle.stm_image.proofs.Digits.{scan_shrinks, get_or-take}
use Rattle.stm_image.proofs.Reading.{flawless_from}
use Rattle.stm_image.proofs.step.next_record.Goals as goal

pub returns-else-bytes-eq1 : goal.returns-else-bytes-eq1
returns-else-bytes-eq1 c =
    let s = c.in-Whole.ensures in
    let three : 3 < c.in-Whole.count = omega (arith, s.room.0) in (
      sym s.value,
      flawless_from c.args.number _ (sym c.in-None.is ∙ c.flaw_at.ensures),
      λ e. c.if-bytes-eq1.false (sym (get_or-take c.scan_record.new.bytes c.in-Whole.count 3 0 three) ∙ e),
      s.room.0,
      s.room.1,
      scan_shrinks _ _ _ (sym s.value),
    )
