-- No LF was met in another sector.
use Rattle.std.proofs.Common.{◌≡◌, ◌≤◌, ◌<◌, ℕ, get_or}
use Rattle.stm_disk.proofs.lines.piece.Given as goal

abbrev pub invariant-loop-i : goal.invariant-loop-i
invariant-loop-i l = (k : ℕ) → l.room ≤ k → k < l.i → get_or l.bytes k 0 ≡ 10 → ⊥
