use Rattle.std.proofs.Common.{◌≡◌, ◌+◌, ◌<◌, ◌≤◌, ℕ}
use Rattle.stm_journal.proofs.Names.{depth, kept_count}
use Rattle.stm_work.proofs.way_back.count_to_change.Given as goal

-- the newest segments so far keep no page
abbrev pub invariant-loop-newer : goal.invariant-loop-newer
invariant-loop-newer l =
    (k : ℕ) → depth l.journal.state < k + l.newer → k ≤ depth l.journal.state
    → kept_count l.journal.state k ≡ 0
