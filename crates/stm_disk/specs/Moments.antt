-- What a crash may leave at any moment of a run of calls.
use Rattle.std.specs.Prelude.{◌⊎◌, ◌≤◌, ℕ, List}
use Rattle.stm_disk.specs.GrowingFile.{FileState}

-- A crash at any moment since old leaves what has P.
pub record CrashLeavesOnly (P : List ℕ → Type 0) (old new : FileState) : Type 0 where
  pub later : old.moment ≤ new.moment
  pub each : (left : List ℕ) → new.left_since old.moment left → P left
  -- for a run that began earlier
  pub before : (t : ℕ) (left : List ℕ) → t ≤ old.moment → new.left_since t left
      → old.left_since t left ⊎ P left
