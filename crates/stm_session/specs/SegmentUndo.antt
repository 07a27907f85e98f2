-- Undoing the newest segment: its pages are put back in the order of their
-- lines, and then it is gone.
use Rattle.std.specs.Prelude.{◌≡◌, ◌⊎◌, ℕ, false, List, [], ◌∷◌, ◌++◌, fold, flat_map, length, take}
use Rattle.std.specs.Prelude.{drop, Result, IfErr, OnOk}
use Rattle.stm_wire.specs.Chip.{ChipData, with_page}
use Rattle.stm_wire.specs.Device.{Device}
use Rattle.stm_wire.specs.Moments.{LeavesOnly}
use Rattle.stm_wire.specs.Rig.{RigState}
use Rattle.stm_journal.specs.declared.entry.Entry.{Entry}
use Rattle.stm_journal.specs.declared.entry.Entry.TheVariants.{Undoes}
use Rattle.stm_journal.specs.declared.kept.Kept.{Kept}
use Rattle.stm_journal.specs.Journals.{Loaded}
use Rattle.stm_session.specs.declared.fault.Fault.{Fault}
use Rattle.stm_session.specs.Fault.{IsOutsideFault}
use Rattle.stm_session.specs.Lines.{is_torn_at, return_entries, text_added}
use Rattle.stm_session.specs.Moments.{SameMake}
use Rattle.stm_session.specs.Steps.{AddsLines, IsSteady, Stands}
use Rattle.stm_session.specs.Undoable.{Undoable, is_unfinished_at, newest_kept, state_at}

-- the flash with these pages put back, in their order
abbrev pub with_pages : ChipData → List Kept → List ℕ → List ℕ
with_pages chip pages flash = fold (λ f kept. with_page chip kept.page kept.bytes f) flash pages

-- the lines by which these pages of a flash are put back
abbrev pub give_back_lines : ChipData → List ℕ → List Kept → List Entry
give_back_lines chip flash pages = flat_map (return_entries chip flash) pages

-- the pages that the newest segment of a journal keeps
abbrev pub newest_at : List ℕ → List Kept
newest_at journal = newest_kept (state_at journal).stack

-- the lines by which the newest segment of a journal is undone
abbrev pub taking_lines : ChipData → List ℕ → List ℕ → List Entry
taking_lines chip flash journal =
    give_back_lines chip flash (newest_at journal) ++ Undoes (length (state_at journal).stack) ∷ []

-- The newest segment is gone, and the flash is the one before it. A beginning
-- of these lines is added.
pub record IsNewestUndone (entries : List Entry) (flash : List ℕ) (flashes : List (List ℕ))
    (old : RigState) (d : Device) (journal : List ℕ) : Type 0 where
  pub undoable : Undoable flashes d journal
  pub make : SameMake old.device d
  pub finished : is_unfinished_at journal ≡ false
  pub restored : d.flash ≡ flash
  pub written : ℕ
  pub lines : journal ≡ old.journal ++ take written (text_added (is_torn_at old.journal) entries)

-- it can still be undone, or it was
abbrev pub AmidSegmentUndo : List Entry → List ℕ → List (List ℕ) → RigState → Device
    → List ℕ → Type 0
AmidSegmentUndo entries flash flashes old d journal =
    Stands entries (flash ∷ flashes) old d journal ⊎ IsNewestUndone entries flash flashes old d journal

-- The newest segment is undone: at Ok the flash is the one before it, the segments below stand
-- as they did and are finished, and just these lines are added.
pub record UndoesSegment {T : Type 0} (entries : List Entry) (flash : List ℕ) (flashes : List (List ℕ))
    (l2 : Loaded) (old new : RigState) (result : Result T Fault) : Type 0 where
  pub moments : LeavesOnly (AmidSegmentUndo entries flash flashes old) old new
  pub fails : IfErr result IsOutsideFault
  pub honest : new.is_honest
  pub steady : OnOk result (IsSteady flashes l2 new)
  pub lines : OnOk result (AddsLines entries old.journal new.journal)
  pub restored : OnOk result (new.device.flash ≡ flash)
  pub below : OnOk result ((state_at new.journal).stack ≡ drop 1 (state_at old.journal).stack)
  pub finished : OnOk result (is_unfinished_at new.journal ≡ false)
