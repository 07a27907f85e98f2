use Rattle.std.proofs.Common.{◌≡◌, ℕ, ◌<◌, option_map}
use Rattle.stm_journal.proofs.Names.{kept_entry}
use Rattle.stm_files.specs.Cutting.{page_outline}
use Rattle.stm_files.proofs.likeness.is_same_segment.Given as goal

-- the pages so far are alike
abbrev pub invariant-loop-i : goal.invariant-loop-i
invariant-loop-i l =
    (i : ℕ) → i < l.i → option_map page_outline (kept_entry l.old.state l.k i) ≡ option_map page_outline (kept_entry l.new.state l.j i)
