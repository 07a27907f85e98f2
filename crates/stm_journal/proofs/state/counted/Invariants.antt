use Rattle.std.proofs.Common.{◌≡◌, ◌+◌, length, take, sum_by}
use Rattle.stm_journal.proofs.Names.{capped}
use Rattle.stm_journal.proofs.state.counted.Given as goal

abbrev pub invariant-loop-segment : goal.invariant-loop-segment
invariant-loop-segment l = l.count ≡ capped (l.more + sum_by (λ segment. length segment.pages) (take l.segment-index l.segments))
