-- Reading the digits of a page from an honest Rig's journal.
use Rattle.std.specs.Prelude.{◌≡◌, ℕ, ◌+◌, ◌*◌, ◌≤◌, Bool, true, List, ◌++◌, length, Option, Some}
use Rattle.std.specs.Prelude.{None, Result, Ok, Err}
use Rattle.std.specs.List.{list_all}
use Rattle.hex.specs.Hex.{decode_sized}
use Rattle.stm_wire.specs.Rig.{RigState}
use Rattle.stm_wire.specs.Device.{LosesOwed}
use Rattle.stm_wire.specs.Moments.{LeavesOnly}
use Rattle.stm_journal.specs.declared.fault.JournalFault.{JournalFault}
use Rattle.stm_journal.specs.declared.fault.JournalFault.TheVariants.{File}
use Rattle.stm_journal.specs.Entries.{is_upper_digit}
use Rattle.stm_journal.specs.Places.{cut}
use Rattle.stm_journal.specs.Calls.{IsUntouched}

-- fetches brought these bytes, one after another, where the Rig keeps what they bring
abbrev pub Brings : List ℕ → Option (List ℕ) → Option (List ℕ) → Type 0
Brings bytes None new = new ≡ None
Brings bytes (Some past) new = new ≡ Some (past ++ bytes)

-- nothing was changed
pub record Looks (old new : RigState) : Type 0 where
  pub honest : new.is_honest
  pub journal : new.journal ≡ old.journal
  pub device : new.device ≡ old.device
  pub moments : LeavesOnly (IsUntouched old) old new

-- nothing but owed bytes, which a call that failed may have lost
pub record LooksInVain (old new : RigState) : Type 0 where
  pub honest : new.is_honest
  pub journal : new.journal ≡ old.journal
  pub lost : LosesOwed old.device new.device
  pub moments : LeavesOnly (IsUntouched old) old new

-- the buffer is filled from a place on
abbrev pub FillsFrom : ℕ → List ℕ → List ℕ → RigState → RigState → Result Bool JournalFault → Type 0
FillsFrom at before after old new (Ok full) =
    Looks old new × (full ≡ true) × (after ≡ cut at (length before) old.journal)
FillsFrom at before after old new (Err e) = (e ≡ File) × LooksInVain old new

-- these bytes are read
abbrev pub FetchesBytes : List ℕ → List ℕ → RigState → RigState
    → Result (Unit {0}) JournalFault → Type 0
FetchesBytes bytes after old new (Ok x) = Looks old new × (after ≡ bytes)
FetchesBytes bytes after old new (Err e) = (e ≡ File) × LooksInVain old new

-- the digits at this place say these bytes
pub record SaysAt (at : ℕ) (bytes journal : List ℕ) : Type 0 where
  pub within : at + 2 * length bytes ≤ length journal
  pub upper : list_all is_upper_digit (cut at (2 * length bytes) journal) ≡ true
  pub decoded : decode_sized (cut at (2 * length bytes) journal) (length bytes) ≡ Ok bytes
