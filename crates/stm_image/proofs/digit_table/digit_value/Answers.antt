use Rattle.std.proofs.Common.{refl, sym, ◌∙◌}
use Rattle.stm_image.proofs.Tables.{value_read}
use Rattle.stm_image.proofs.digit_table.digit_value.Goals as goal

pub returns-then-is_ok : goal.returns-then-is_ok
returns-then-is_ok c = (value_read c.args.b _ refl _ _ c.decode_to_slice.ensures.value).0 (sym c.is_ok.ensures.value ∙ c.if-is_ok.true)

pub returns-else-is_ok : goal.returns-else-is_ok
returns-else-is_ok c = (value_read c.args.b _ refl _ _ c.decode_to_slice.ensures.value).1 (sym c.is_ok.ensures.value ∙ c.if-is_ok.false)
