-- Undoing segments, one after another, the newest first.
use Rattle.std.specs.Prelude.{◌≡◌, ℕ, ◌≤◌, false, List, ◌++◌, drop, take, Result, IfErr, OnOk}
use Rattle.stm_wire.specs.Device.{Device}
use Rattle.stm_wire.specs.Moments.{LeavesOnly}
use Rattle.stm_wire.specs.Rig.{RigState}
use Rattle.stm_journal.specs.declared.entry.Entry.{Entry}
use Rattle.stm_journal.specs.Journals.{Loaded}
use Rattle.stm_session.specs.declared.fault.Fault.{Fault}
use Rattle.stm_session.specs.Fault.{IsOutsideFault}
use Rattle.stm_session.specs.Lines.{is_torn_at, taken_entries, text_added, undo_entries}
use Rattle.stm_session.specs.Moments.{SameMake}
use Rattle.stm_session.specs.Steps.{AddsLines, IsSteady}
use Rattle.stm_session.specs.Undoable.{Undoable, is_unfinished_at, state_at}
use Rattle.stm_session.specs.Undoes.{flash_undone}

-- the lines by which so many segments are undone, from the flash as it is
abbrev pub going_lines : ℕ → RigState → List Entry
going_lines taken old =
    taken_entries old.device.chip taken (state_at old.journal).stack old.device.flash

-- and those of an undo, which puts the pages at work back first
abbrev pub undo_lines : ℕ → RigState → List Entry
undo_lines taken old =
    undo_entries old.device.chip taken (state_at old.journal).stack old.device.flash

-- At a moment of undoing so many segments, some of them are off. Where none is unfinished, the
-- flash is the one before the oldest that is off; or none is, none was unfinished at the start, and
-- the flash is that of the start. A beginning of these lines is added.
pub record AmidNewestBy (entries : List Entry) (taken : ℕ) (flashes : List (List ℕ)) (old : RigState)
    (d : Device) (journal : List ℕ) : Type 0 where
  pub undone : ℕ
  pub within : undone ≤ taken
  pub make : SameMake old.device d
  pub undoable : Undoable (drop undone flashes) d journal
  pub finished : is_unfinished_at journal ≡ false
      → (undone ≡ 0 → is_unfinished_at old.journal ≡ false)
      × (d.flash ≡ flash_undone undone old.device.flash flashes)
  pub written : ℕ
  pub lines : journal ≡ old.journal ++ take written (text_added (is_torn_at old.journal) entries)

abbrev pub AmidNewest : ℕ → List (List ℕ) → RigState → Device → List ℕ → Type 0
AmidNewest taken flashes old d journal =
    AmidNewestBy (going_lines taken old) taken flashes old d journal

-- So many segments are undone, from a steady Rig, and just these lines are added.
pub record UndoesBy {T : Type 0} (entries : List Entry) (taken : ℕ) (flashes : List (List ℕ))
    (l2 : Loaded) (old new : RigState) (result : Result T Fault) : Type 0 where
  pub moments : LeavesOnly (AmidNewestBy entries taken flashes old) old new
  pub fails : IfErr result IsOutsideFault
  pub honest : new.is_honest
  pub steady : OnOk result (IsSteady (drop taken flashes) l2 new)
  pub lines : OnOk result (AddsLines entries old.journal new.journal)
  pub restored : OnOk result (new.device.flash ≡ flash_undone taken old.device.flash flashes)
  pub below : OnOk result ((state_at new.journal).stack ≡ drop taken (state_at old.journal).stack)
  pub finished : OnOk result (1 ≤ taken → is_unfinished_at new.journal ≡ false)

abbrev pub UndoesNewest : {T : Type 0} → ℕ → List (List ℕ) → Loaded → RigState → RigState
    → Result T Fault → Type 0
UndoesNewest taken flashes l2 old new result =
    UndoesBy (going_lines taken old) taken flashes l2 old new result
