-- Files that a program has for itself, as contracts see them.
use Rattle.std.specs.Prelude.{◌≡◌, ◌||◌, ℕ, List, Option, None, Some, Bool, true, false}
use Rattle.stm_files.specs.declared.locks.LockAnswer.{LockAnswer}
use Rattle.stm_files.specs.declared.locks.LockAnswer.TheVariants.{Ours, Taken, Refused}

-- What the system's own runtime shows of an answer: nothing, since no proof says what a lock is.
-- Code over any runtime can't show even that without asking.
abbrev pub Asked : Type 0
Asked = Unit {0}

pub record HeldFile : Type 0 where
  -- the bytes that reads will give from here on, where the runtime tells them
  pub ahead : Option (List ℕ)
  -- the system gave a lock on it; else it gives none
  pub is_locked : Bool

-- this answer lets a program have the file: by a lock, or since there is none to be had
abbrev pub Lets : LockAnswer → Bool → Type 0
Lets Ours is_locked = is_locked ≡ true
Lets Taken is_locked = ⊥
Lets (Refused e) is_locked = is_locked ≡ false

-- the system was asked, and its answer lets the program have the file
abbrev pub ShowsHold : (LockAnswer → Type 0) → Bool → Type 0
ShowsHold answered is_locked = (answer : LockAnswer) × answered answer × Lets answer is_locked

-- a file that isn't there, or that is locked, unless it was said that this isn't needed
abbrev pub IsHeldIfThere : Bool → Option Bool → Type 0
IsHeldIfThere without_lock None = Unit {0}
IsHeldIfThere without_lock (Some is_locked) = (is_locked || without_lock) ≡ true

-- the same of a file that is there
abbrev pub IsHeld : Bool → Option Bool → Type 0
IsHeld without_lock None = ⊥
IsHeld without_lock (Some is_locked) = (is_locked || without_lock) ≡ true
