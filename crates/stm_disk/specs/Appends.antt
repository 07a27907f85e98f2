-- Appends to one file, one behind the other.
use Rattle.std.specs.Prelude.{◌≡◌, ◌⊎◌, ℕ, List, [], ◌∷◌, ◌++◌, length, take, Result, Ok}
use Rattle.stm_disk.specs.GrowingFile.{FileState}
use Rattle.stm_disk.specs.Moments.{CrashLeavesOnly}
use Rattle.stm_disk.specs.Lines.{LeftByAdding, AddsHonestly}

-- the bytes of all parts, and behind them the last
abbrev pub all_bytes : List (List ℕ) → List ℕ → List ℕ
all_bytes [] last = last
all_bytes (bytes ∷ more) last = bytes ++ all_bytes more last

-- The parts were added in turn, each behind one that answered Ok; the last answered so. A file is
-- seen through its view.
abbrev pub AddedInTurn : {F E : Type 0} → (F → FileState) → List (List ℕ) → List ℕ
    → Result (Unit {0}) E → F → F → Type 0
AddedInTurn view [] last result a z = AddsHonestly last result (view a) (view z)
AddedInTurn {F} {E} view (bytes ∷ more) last result a z =
    (mid : F) × AddsHonestly {T = Unit {0}} {E = E} bytes (Ok tt) (view a) (view mid)
    × AddedInTurn view more last result mid z

-- Appends that follow one another are one append of all their bytes.
abbrev pub AppendsAreOne : (F E : Type 0) → (F → FileState) → Type 0
AppendsAreOne F E view = (parts : List (List ℕ)) (last : List ℕ) (result : Result (Unit {0}) E)
    (a z : F) → AddedInTurn view parts last result a z
    → AddsHonestly (all_bytes parts last) result (view a) (view z)

-- a beginning of an append is there, which was stopped or has failed
pub record IsAppendBegun (bytes : List ℕ) (old new : FileState) : Type 0 where
  pub some : (n : ℕ) × (new.seen ≡ old.seen ++ take n bytes)
  pub time : CrashLeavesOnly (LeftByAdding old.seen bytes) old new

-- it is on the disk, so that more can be added behind it
pub record IsTakenUp (bytes : List ℕ) (old new : FileState) : Type 0 where
  pub honest : new.is_honest
  pub begun : IsAppendBegun bytes old new
  pub synced : new.synced ≡ length new.seen

-- what a crash leaves of appends, each behind a beginning of the one before: of one of them a
-- beginning of its lines, behind the beginnings that are there of those before it
abbrev pub LeftByAll : List ℕ → List (List ℕ) → List ℕ → List ℕ → Type 0
LeftByAll old [] last left = LeftByAdding old last left
LeftByAll old (bytes ∷ more) last left =
    LeftByAdding old bytes left ⊎ ((n : ℕ) × LeftByAll (old ++ take n bytes) more last left)

-- each was stopped or has failed, and was taken up, and the last is at any moment of its own
abbrev pub TakenUpInTurn : {F : Type 0} → (F → FileState) → List (List ℕ) → List ℕ → F → F → Type 0
TakenUpInTurn view [] last a z = CrashLeavesOnly (LeftByAdding (view a).seen last) (view a) (view z)
TakenUpInTurn {F} view (bytes ∷ more) last a z =
    (mid : F) × IsTakenUp bytes (view a) (view mid) × TakenUpInTurn view more last mid z

-- At whichever moment of theirs the PC crashes, the beginnings of all lines are left, in order.
abbrev pub StoppedAppendsFollow : (F : Type 0) → (F → FileState) → Type 0
StoppedAppendsFollow F view = (parts : List (List ℕ)) (last : List ℕ) (a z : F)
    → TakenUpInTurn view parts last a z
    → CrashLeavesOnly (LeftByAll (view a).seen parts last) (view a) (view z)
