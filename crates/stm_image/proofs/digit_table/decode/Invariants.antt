use Rattle.std.proofs.Common.{◌≡◌, ℕ, ◌+◌, ◌*◌, ◌<◌, ◌≤◌, length, slice_index}
use Rattle.stm_image.specs.Digits.{IsPair, HasOther}
use Rattle.stm_image.proofs.digit_table.decode.Given as goal

-- the pairs so far are decoded, if no other digit was seen
abbrev pub invariant-loop-i : goal.invariant-loop-i
invariant-loop-i l = record {
  long : length l.out ≡ length l.initial.out;
  pairs : l.seen ≤ 15 → (k : ℕ) → k < l.i → IsPair (slice_index l.digits (2 * k)) (slice_index l.digits (2 * k + 1)) (slice_index l.out k);
  other : 15 < l.seen → HasOther l.digits;
}
