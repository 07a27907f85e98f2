use Rattle.std.proofs.Common.{◌≡◌, ◌<◌, List, ℕ, Some}
use Rattle.stm_journal.specs.declared.kept.Kept.{Kept}
use Rattle.stm_journal.proofs.Names.{kept_entry, StateData}
use Rattle.stm_files.specs.Checking.{IsTied}
use Rattle.stm_files.specs.Damage.{HasItsSum}
use Rattle.stm_files.proofs.damage.find_in.Given as goal

-- the pages so far are right
abbrev pub invariant-loop-i : goal.invariant-loop-i
invariant-loop-i g l =
    (bytes : List ℕ) (s : StateData) → IsTied bytes s l.journal (g.L.Rig.view l.fn.rig)
    → IsTied bytes s l.journal (g.L.Rig.view l.rig)
    × ((i : ℕ) (kept : Kept) → i < l.i → kept_entry s l.k i ≡ Some kept → HasItsSum bytes kept)
