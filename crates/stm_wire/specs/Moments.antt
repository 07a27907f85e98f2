-- What a stop may leave at any moment of a run of calls.
use Rattle.std.specs.Prelude.{◌≡◌, ◌⊎◌, ℕ, ◌≤◌, List, take}
use Rattle.stm_wire.specs.Device.{Device, Fed, LosesOwed}
use Rattle.stm_wire.specs.Rig.{RigState}

-- A stop at any moment since old leaves what has P.
pub record LeavesOnly (P : Device → List ℕ → Type 0) (old new : RigState) : Type 0 where
  pub later : old.moment ≤ new.moment
  pub each : (d : Device) (journal : List ℕ) → new.left_since old.moment d journal → P d journal
  -- for a run that began earlier
  pub before : (t : ℕ) (d : Device) (journal : List ℕ) → t ≤ old.moment → new.left_since t d journal
      → old.left_since t d journal ⊎ P d journal

-- the bytes were fed, one after another, and owed bytes were taken or lost
abbrev pub FedAndTaken : List ℕ → Device → Device → Type 0
FedAndTaken bytes old new = (mid : Device) × Fed bytes old mid × LosesOwed mid new

-- a beginning of the bytes was
abbrev pub PartlyFed : List ℕ → Device → Device → Type 0
PartlyFed bytes old new = (n : ℕ) × FedAndTaken (take n bytes) old new

-- the same journal, and the device fed with a beginning of the bytes
abbrev pub LeftBySending : List ℕ → RigState → Device → List ℕ → Type 0
LeftBySending bytes old d journal = (journal ≡ old.journal) × PartlyFed bytes old.device d
