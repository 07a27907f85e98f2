use Rattle.std.proofs.Common.{◌≡◌, ℕ, ◌+◌, ◌<◌, option_map}
use Rattle.stm_journal.proofs.Names.{segment_of}
use Rattle.stm_files.specs.Cutting.{outline}
use Rattle.stm_files.proofs.likeness.is_cut.Given as goal

-- the segments so far are alike
abbrev pub invariant-loop-k : goal.invariant-loop-k
invariant-loop-k l =
    (k : ℕ) → k < l.k → option_map outline (segment_of l.old.state (k + l.given_up + 1)) ≡ option_map outline (segment_of l.new.state (k + 1))
