-- What the steps of a command, and of undoing one, do to a Rig that follows the model.
use Rattle.std.specs.Prelude.{◌≡◌, ℕ, Bool, true, false, List, [], ◌∷◌, ◌++◌, take, Some, Result}
use Rattle.std.specs.Prelude.{IfErr, IfOk, OnOk, IsTrue}
use Rattle.stm_wire.specs.declared.intent.Intent.{Intent}
use Rattle.stm_wire.specs.Device.{Device, IsSettled}
use Rattle.stm_wire.specs.Rig.{RigState}
use Rattle.stm_wire.specs.Moments.{LeavesOnly}
use Rattle.stm_journal.specs.declared.entry.Entry.{Entry}
use Rattle.stm_journal.specs.declared.entry.Entry.TheVariants.{Keeps, Erases, Programs}
use Rattle.stm_journal.specs.Newest.{KeepsSame}
use Rattle.stm_journal.specs.States.{StateData, is_unfinished, intent_of, names_other, newest_keeps}
use Rattle.stm_journal.specs.Flashes.{flashes_before_segments}
use Rattle.stm_journal.specs.Journals.{Loaded, IsLoaded}
use Rattle.stm_session.specs.declared.fault.Fault.{Fault}
use Rattle.stm_session.specs.Fault.{IsOutsideFault}
use Rattle.stm_session.specs.Lines.{is_torn_at, text_added}
use Rattle.stm_session.specs.Moments.{SameMake}
use Rattle.stm_session.specs.Undoable.{IsJournalOf, Undoable, is_unfinished_at, state_at}

-- The journal's state is one of this device, and keeps these flashes.
pub record KeepsFlashes (flashes : List (List ℕ)) (d : Device) (s : StateData) : Type 0 where
  pub own : names_other d.chip.id s ≡ false
  pub fits : IsJournalOf d.chip s
  pub before : flashes_before_segments d.chip s.stack d.flash ≡ flashes

-- Between two steps: the journal in memory is the Rig's, which keeps these flashes; the
-- device waits for a command.
pub record IsSteady (flashes : List (List ℕ)) (l : Loaded) (rig : RigState) : Type 0 where
  pub honest : rig.is_honest
  pub loaded : IsLoaded l rig.journal
  pub settled : IsSettled rig.device
  pub keeps : KeepsFlashes flashes rig.device (state_at rig.journal)

-- whether a torn tail still stands behind these lines
abbrev pub torn_after : Bool → List Entry → Bool
torn_after torn [] = torn
torn_after torn (e ∷ entries) = false

-- each line says that a page is to be erased or programmed
abbrev pub AreIntents : List Entry → Type 0
AreIntents [] = Unit {0}
AreIntents (Erases n ∷ entries) = AreIntents entries
AreIntents (Programs n ∷ entries) = AreIntents entries
AreIntents _ = ⊥

-- just these lines were added; where they are intents alone, the segments keep what they kept
pub record AddsLines (entries : List Entry) (old new : List ℕ) : Type 0 where
  pub added : new ≡ old ++ text_added (is_torn_at old) entries
  pub torn : is_torn_at new ≡ torn_after (is_torn_at old) entries
  pub same : AreIntents entries → KeepsSame (state_at old) (state_at new)

-- A stop here can be undone to the same flashes. Where the journal is finished, it was so at
-- the start, and the flash is that of the start. A beginning of these lines is added.
pub record Stands (entries : List Entry) (flashes : List (List ℕ)) (old : RigState) (d : Device)
    (journal : List ℕ) : Type 0 where
  pub undoable : Undoable flashes d journal
  pub make : SameMake old.device d
  pub finished : is_unfinished_at journal ≡ false
      → (is_unfinished_at old.journal ≡ false) × (d.flash ≡ old.device.flash)
  pub written : ℕ
  pub lines : journal ≡ old.journal ++ take written (text_added (is_torn_at old.journal) entries)

-- A step, or some: each moment stands; they fail by the line, the journal or memory alone; at Ok
-- all is steady again, just these lines are added, and what they were for is done.
pub record Goes {T : Type 0} (flashes : List (List ℕ)) (entries : List Entry) (l2 : Loaded)
    (old new : RigState) (result : Result T Fault) (Done : T → Type 0) : Type 0 where
  pub moments : LeavesOnly (Stands entries flashes old) old new
  pub fails : IfErr result IsOutsideFault
  pub honest : new.is_honest
  pub steady : OnOk result (IsSteady flashes l2 new)
  pub lines : OnOk result (AddsLines entries old.journal new.journal)
  pub done : IfOk result Done

-- the newest segment, which is unfinished, keeps this page, and this is the intent
pub record IsUnder (n : ℕ) (intent : Intent) (s : StateData) : Type 0 where
  pub kept : IsTrue (newest_keeps n s)
  pub newest : intent_of s ≡ Some intent
  pub unfinished : is_unfinished s ≡ true
