use Rattle.std.proofs.Common.{◌≡◌, ◌++◌, List, ℕ}
use Rattle.std.specs.List.{flat_map, range_with_len}
use Rattle.stm_journal.proofs.Names.{StateData}
use Rattle.stm_files.specs.Checking.{IsTied, checked_segment}
use Rattle.stm_files.proofs.checking.add_segments.Given as goal

-- the segments so far
abbrev pub invariant-loop-k : goal.invariant-loop-k
invariant-loop-k g l =
    (bytes : List ℕ) (s : StateData) → IsTied bytes s l.journal (g.L.Rig.view l.fn.rig)
    → IsTied bytes s l.journal (g.L.Rig.view l.rig) × (l.out.items ≡ l.fn.out.items ++ flat_map (checked_segment s) (range_with_len 1 l.k))
