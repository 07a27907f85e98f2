use Rattle.std.proofs.Common.{◌++◌, ◌∷◌, [], ◌∙◌, take, ap, ap₂, sym, arith}
use Rattle.stm_image.specs.Text.{pairs_of, form_after}
use Rattle.stm_image.specs.declared.place.Form.TheVariants.{Linear}
use Rattle.stm_image.proofs.Reading.{Follows-snoc, placed-snoc, form_of-snoc, length-snoc}
use Rattle.stm_image.proofs.reader.read_pieces.Goals as goal

-- one more good record
pub records-preserved : goal.records-preserved
records-preserved c =
    let inv = c.records.invariant in
    let step = c.in-Goes.ensures in
    let r = take c.in-Goes.count c.next_record.new.bytes in
    let taken = c.in-Ok.ensures in
    let more = length-snoc inv.0 r in (
      inv.0 ++ r ∷ [],
      Follows-snoc _ inv.0 _ r _ inv.1 step.0 step.1 step.2,
      taken.placed ∙ ap₂ (λ ps f. ps ++ pairs_of f r) inv.2 inv.3 ∙ sym (placed-snoc (Linear 0) inv.0 r),
      taken.form ∙ ap (λ f. form_after f r) inv.3 ∙ sym (form_of-snoc (Linear 0) inv.0 r),
      omega (arith, inv.4),
      omega (arith, inv.5, step.5),
      taken.stand,
    )
