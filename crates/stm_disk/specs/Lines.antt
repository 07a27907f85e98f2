-- What adding lines to a file promises of a crash.
use Rattle.std.specs.Prelude.{◌≡◌, ℕ, List, ◌++◌, length, take, Result, OnOk, OnErr}
use Rattle.stm_journal.specs.Text.{HasNoLF}
use Rattle.stm_disk.specs.GrowingFile.{FileState}
use Rattle.stm_disk.specs.Moments.{CrashLeavesOnly}

-- A beginning of the bytes was added, and what follows it has no LF: the whole lines that were
-- added are a beginning of the lines of the bytes, and behind them stands a torn tail.
abbrev pub LeftByAdding : List ℕ → List ℕ → List ℕ → Type 0
LeftByAdding old bytes left =
    (n : ℕ) × (tail : List ℕ) × (left ≡ old ++ (take n bytes ++ tail)) × HasNoLF tail

-- its end is at this place, and all of it is synced
pub record IsSynced (at : ℕ) (file : FileState) : Type 0 where
  pub place : at ≡ length file.seen
  pub synced : file.synced ≡ length file.seen

-- all bytes are there, and a crash from now on leaves them
pub record StaysOnDisk (bytes : List ℕ) (old new : FileState) : Type 0 where
  pub honest : new.is_honest
  pub seen : new.seen ≡ old.seen ++ bytes
  pub synced : new.synced ≡ length new.seen
  pub left : (left : List ℕ) → new.left_since new.moment left → left ≡ old.seen ++ bytes

-- Whenever the PC crashes, a beginning of the lines is left, and at Ok all. Where it failed, a
-- beginning of the bytes is there.
pub record AddsHonestly {T E : Type 0} (bytes : List ℕ) (result : Result T E)
    (old new : FileState) : Type 0 where
  pub ok : OnOk result (StaysOnDisk bytes old new)
  pub err : OnErr result ((n : ℕ) × (new.seen ≡ old.seen ++ take n bytes))
  pub time : CrashLeavesOnly (LeftByAdding old.seen bytes) old new
