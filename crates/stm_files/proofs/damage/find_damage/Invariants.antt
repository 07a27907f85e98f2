use Rattle.std.proofs.Common.{◌≡◌, ◌<◌, ◌-◌, List, ℕ, None}
use Rattle.stm_journal.proofs.Names.{depth, forget_state, StateData}
use Rattle.stm_files.specs.Checking.{IsTied}
use Rattle.stm_files.specs.Damage.{FindsIn}
use Rattle.stm_files.proofs.damage.find_damage.Given as goal

-- the segments so far are right
abbrev pub invariant-loop-newer : goal.invariant-loop-newer
invariant-loop-newer g l =
    (bytes : List ℕ) (s : StateData) → IsTied bytes s l.journal (g.L.Rig.view l.fn.rig)
    → IsTied bytes s l.journal (g.L.Rig.view l.rig)
    × ((newer : ℕ) → newer < l.newer → FindsIn bytes s (depth (forget_state s) - newer) None)
