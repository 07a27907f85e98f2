use Rattle.std.proofs.Common.{◌≡◌, ◌++◌, List, ℕ}
use Rattle.std.specs.List.{flat_map, range_with_len}
use Rattle.stm_journal.proofs.Names.{StateData}
use Rattle.stm_files.specs.Checking.{IsTied, page_text}
use Rattle.stm_files.proofs.checking.add_pages.Given as goal

-- the pages so far
abbrev pub invariant-loop-i : goal.invariant-loop-i
invariant-loop-i g l =
    (bytes : List ℕ) (s : StateData) → IsTied bytes s l.journal (g.L.Rig.view l.fn.rig)
    → IsTied bytes s l.journal (g.L.Rig.view l.rig) × (l.out.items ≡ l.fn.out.items ++ flat_map (page_text s l.k) (range_with_len 0 l.i))
