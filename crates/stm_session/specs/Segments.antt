-- What a command does to a Rig that follows the model, as one segment of its journal.
use Rattle.std.specs.Prelude.{◌≡◌, ◌⊎◌, ℕ, false, List, ◌∷◌, ◌++◌, take, Result, IfErr, IfOk, OnOk}
use Rattle.stm_wire.specs.Device.{Device}
use Rattle.stm_wire.specs.Rig.{RigState}
use Rattle.stm_wire.specs.Moments.{LeavesOnly}
use Rattle.stm_journal.specs.declared.entry.Entry.{Entry}
use Rattle.stm_journal.specs.Journals.{Loaded}
use Rattle.stm_session.specs.declared.fault.Fault.{Fault}
use Rattle.stm_session.specs.Fault.{IsOutsideFault}
use Rattle.stm_session.specs.Lines.{is_torn_at, text_added}
use Rattle.stm_session.specs.Moments.{SameMake}
use Rattle.stm_session.specs.Steps.{AddsLines, IsSteady, Stands}
use Rattle.stm_session.specs.Undoable.{Undoable, is_unfinished_at}

-- The segment has begun: the flash before it can be had back too, and where it has ended, the flash
-- is the one after the command. A beginning of these lines is added.
pub record HasOpened (entries : List Entry) (flashes : List (List ℕ)) (after : List ℕ)
    (old : RigState) (d : Device) (journal : List ℕ) : Type 0 where
  pub undoable : Undoable (old.device.flash ∷ flashes) d journal
  pub make : SameMake old.device d
  pub finished : is_unfinished_at journal ≡ false → d.flash ≡ after
  pub written : ℕ
  pub lines : journal ≡ old.journal ++ take written (text_added (is_torn_at old.journal) entries)

-- A moment of a command: its segment hasn't begun, and nothing has changed; or it has.
abbrev pub AmidCommand : List Entry → List (List ℕ) → List ℕ → RigState → Device → List ℕ → Type 0
AmidCommand entries flashes after old d journal =
    Stands entries flashes old d journal ⊎ HasOpened entries flashes after old d journal

-- A command, or a beginning of one: each moment is such a one; it fails by the line, the journal
-- or memory alone; at Ok all is steady again with a segment more, just these lines are added, and
-- what it was for is done.
pub record Changes {T : Type 0} (flashes : List (List ℕ)) (entries : List Entry) (after : List ℕ)
    (l2 : Loaded) (old new : RigState) (result : Result T Fault) (Done : T → Type 0) : Type 0 where
  pub moments : LeavesOnly (AmidCommand entries flashes after old) old new
  pub fails : IfErr result IsOutsideFault
  pub honest : new.is_honest
  pub steady : OnOk result (IsSteady (old.device.flash ∷ flashes) l2 new)
  pub lines : OnOk result (AddsLines entries old.journal new.journal)
  pub done : IfOk result Done

-- Wherever the end of a segment is stopped, the flash is as it was, and all
-- can be had back that could.
pub record IsClosing (entries : List Entry) (flashes : List (List ℕ)) (old : RigState) (d : Device)
    (journal : List ℕ) : Type 0 where
  pub undoable : Undoable flashes d journal
  pub make : SameMake old.device d
  pub flash : d.flash ≡ old.device.flash
  pub written : ℕ
  pub lines : journal ≡ old.journal ++ take written (text_added (is_torn_at old.journal) entries)

pub record Closes {T : Type 0} (flashes : List (List ℕ)) (entries : List Entry) (l2 : Loaded)
    (old new : RigState) (result : Result T Fault) : Type 0 where
  pub moments : LeavesOnly (IsClosing entries flashes old) old new
  pub fails : IfErr result IsOutsideFault
  pub honest : new.is_honest
  pub steady : OnOk result (IsSteady flashes l2 new)
  pub lines : OnOk result (AddsLines entries old.journal new.journal)
  pub same_device : OnOk result (new.device ≡ old.device)
