-- A file that grows, as contracts see it, and what its calls do to it.
use Rattle.std.specs.Prelude.{◌≡◌, ◌⊎◌, ◌^◌, ◌-◌, ◌≤◌, ℕ, List, ◌++◌, length, take}
use Rattle.std.specs.Prelude.{Option, Result, OnOk, OnErr}
use Rattle.stm_disk.specs.Crash.{MayBeLeft}

pub record FileState : Type 1 where
  -- it follows the model so far, and no sync has failed
  pub is_honest : Type 0
  -- its bytes, and how many of them, from the first on, a sync has answered for
  pub seen : List ℕ
  pub synced : ℕ
  -- a number that doesn't fall
  pub moment : ℕ
  -- what a crash at some moment from that one on may have left
  pub left_since : ℕ → List ℕ → Type 0
  -- what it holds, where that is known of any such file, whether it follows the model or not
  pub known : Option (List ℕ)

-- From old to new, a crash may have left what it might have left before, or what has P.
pub record FileElapses (P : List ℕ → Type 0) (old new : FileState) : Type 0 where
  pub later : old.moment ≤ new.moment
  pub nothing_else : (t : ℕ) (left : List ℕ) → t ≤ old.moment → new.left_since t left
      → old.left_since t left ⊎ P left
  pub keeps : (t : ℕ) (left : List ℕ) → t ≤ old.moment → old.left_since t left
      → new.left_since t left

-- a beginning of the bytes was added, all of them at Ok, and none is synced yet
pub record GrowsHonestly {T E : Type 0} (bytes : List ℕ) (result : Result T E)
    (old new : FileState) : Type 0 where
  pub honest : new.is_honest
  pub ok : OnOk result (new.seen ≡ old.seen ++ bytes)
  pub err : OnErr result ((n : ℕ) × (new.seen ≡ old.seen ++ take n bytes))
  pub synced : new.synced ≡ old.synced
  pub time : FileElapses (MayBeLeft old.synced (old.seen ++ bytes)) old new

-- A sync that answers Ok answers for all bytes. After one that fails nothing more is told of the
-- file: the system may have dropped what was written.
pub record SyncsHonestly {T E : Type 0} (result : Result T E) (old new : FileState) : Type 0 where
  pub honest : OnOk result new.is_honest
  pub seen : new.seen ≡ old.seen
  pub ok : OnOk result (new.synced ≡ length old.seen)
  pub time : FileElapses (MayBeLeft old.synced old.seen) old new

-- what is so of a file that follows the model, at each moment
pub record FollowsFileModel (file : FileState) : Type 0 where
  pub limit : length file.seen ≤ 2 ^ 63 - 1
  pub synced : file.synced ≤ length file.seen
  -- this moment is one of those since an earlier one, and since this moment there is no other
  pub counts_now : (t : ℕ) (left : List ℕ) → t ≤ file.moment
      → MayBeLeft file.synced file.seen left → file.left_since t left
  pub only_now : (left : List ℕ) → file.left_since file.moment left
      → MayBeLeft file.synced file.seen left
