use Rattle.std.proofs.Common.{◌≡◌, ℕ, ◌<◌, length, get_or}
use Rattle.hex.specs.Hex.{hex_digit_value}
use Rattle.stm_image.specs.Digits.{table_value}
use Rattle.stm_image.proofs.digit_table.digit_values.Given as goal

abbrev pub invariant-loop-b : goal.invariant-loop-b
invariant-loop-b l = (length l.values ≡ 256) × ((c : ℕ) → c < l.b → get_or l.values c 0 ≡ table_value (hex_digit_value c))
