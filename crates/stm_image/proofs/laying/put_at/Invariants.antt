use Rattle.std.proofs.Common.{◌≡◌, ℕ, ◌+◌, ◌<◌, ◌≤◌, length, slice_index}
use Rattle.stm_image.proofs.laying.put_at.Given as goal

-- the bytes so far are put, and all others are as they were
abbrev pub invariant-loop-i : goal.invariant-loop-i
invariant-loop-i l = record {
  same_length : length l.to ≡ length l.initial.to;
  over : (k : ℕ) → k < l.i → slice_index l.to (l.skip + k) ≡ slice_index l.from k;
  before : (k : ℕ) → k < l.skip → slice_index l.to k ≡ slice_index l.initial.to k;
  after : (k : ℕ) → l.skip + l.i ≤ k → slice_index l.to k ≡ slice_index l.initial.to k;
}
