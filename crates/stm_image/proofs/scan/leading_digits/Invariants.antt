use Rattle.std.proofs.Common.{ℕ, ◌≡◌, ◌<◌, true, get_or}
use Rattle.hex.specs.Hex.{is_hex_digit}
use Rattle.stm_image.proofs.scan.leading_digits.Given as goal

abbrev pub invariant-loop-i : goal.invariant-loop-i
invariant-loop-i l = (k : ℕ) → k < l.i → is_hex_digit (get_or l.text k 0) ≡ true
