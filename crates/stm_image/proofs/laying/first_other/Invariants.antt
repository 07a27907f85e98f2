use Rattle.std.proofs.Common.{◌≡◌, ℕ, ◌<◌, ◌≤◌, length, slice_index}
use Rattle.stm_image.proofs.laying.first_other.Given as goal

-- the bytes so far are the same
abbrev pub invariant-loop-i : goal.invariant-loop-i
invariant-loop-i l = record { within : l.i ≤ length l.bytes; same : (k : ℕ) → k < l.i → slice_index l.run k ≡ slice_index l.bytes k }
