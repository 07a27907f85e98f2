-- What an undo does.
use Rattle.std.specs.Prelude.{◌≡◌, ℕ, zero, suc, ◌≤◌, ◌||◌, ◌==◌, nat_lt, false, if◌then◌else◌}
use Rattle.std.specs.Prelude.{List, [], ◌++◌, length, take, drop, get_or, Result, IfErr, IfOk, OnOk}
use Rattle.stm_wire.specs.Awaited.{Awaits}
use Rattle.stm_wire.specs.Chip.{ChipData}
use Rattle.stm_wire.specs.Device.{Device, IsSettled}
use Rattle.stm_wire.specs.Harmless.{Harmless, SameOutside}
use Rattle.stm_wire.specs.Intents.{settling_byte}
use Rattle.stm_wire.specs.Rig.{RigState}
use Rattle.stm_wire.specs.Moments.{LeavesOnly}
use Rattle.stm_journal.specs.Greetings.{is_greeted}
use Rattle.stm_journal.specs.States.{intent_of}
use Rattle.stm_journal.specs.Calls.{IsUntouched}
use Rattle.stm_session.specs.declared.fault.Fault.{Fault}
use Rattle.stm_session.specs.Fault.{IsOutsideFault, IsJournalOrMemory}
use Rattle.stm_session.specs.Fresh.{settling_limit}
use Rattle.stm_session.specs.Moments.{SameMake}
use Rattle.stm_session.specs.Undoable.{Undoable, is_unfinished_at, state_at, risked_pages}
use Rattle.stm_session.specs.Lines.{is_torn_at, undo_entries, text_added}

-- how many segments are undone: all where the count is 0 or more than there are
abbrev pub taken_count : ℕ → ℕ → ℕ
taken_count count depth = if count == 0 || nat_lt depth count then depth else count

-- the flash before the oldest of the newest n segments, and with none the flash as it is
abbrev pub flash_undone : ℕ → List ℕ → List (List ℕ) → List ℕ
flash_undone zero flash flashes = flash
flash_undone (suc i) flash flashes = get_or flashes i []

-- the pages that a stopped command may have left half erased or half written
abbrev pub risked_at : List ℕ → List ℕ
risked_at journal = risked_pages (state_at journal)

-- the byte that settles the device, by the journal's intent
abbrev pub byte_at_journal : List ℕ → ℕ
byte_at_journal journal = settling_byte (intent_of (state_at journal))

-- the device awaits no more settling bytes than are sent by a journal of this chip
abbrev pub IsWithinLimit : ChipData → RigState → Type 0
IsWithinLimit chip old =
    Awaits (byte_at_journal old.journal)
    (settling_limit chip.kind (is_greeted old.journal) (intent_of (state_at old.journal))) old.device

-- what settling may have made of the flash: it differs in the pages at risk alone
abbrev pub IsFlashSettled : RigState → List ℕ → Type 0
IsFlashSettled old flash =
    SameOutside old.device.chip (risked_at old.journal) old.device.flash flash

-- what undoing so many segments adds to the journal, from this flash on
abbrev pub undo_text : RigState → ℕ → List ℕ → List ℕ
undo_text old taken flash =
    text_added (is_torn_at old.journal)
    (undo_entries old.device.chip taken (state_at old.journal).stack flash)

-- At a moment of an undo so many segments are off the stack: the flashes before the others can be
-- had back; where none is unfinished, the flash is the one before the oldest that is off, or the
-- old one; and a beginning of the lines is added.
pub record AmidUndo (taken : ℕ) (flashes : List (List ℕ)) (old : RigState) (d : Device)
    (journal : List ℕ) : Type 0 where
  pub undone : ℕ
  pub within : undone ≤ taken
  pub make : SameMake old.device d
  pub undoable : Undoable (drop undone flashes) d journal
  pub finished : is_unfinished_at journal ≡ false
      → d.flash ≡ flash_undone undone old.device.flash flashes
  pub settled : List ℕ
  pub is_settled : IsFlashSettled old settled
  pub written : ℕ
  pub lines : journal ≡ old.journal ++ take written (undo_text old taken settled)

-- So many segments are undone, and just the lines for that are added.
pub record AreUndone (taken : ℕ) (flashes : List (List ℕ)) (old : RigState) (d : Device)
    (journal : List ℕ) : Type 0 where
  pub finished : is_unfinished_at journal ≡ false
  pub make : SameMake old.device d
  pub flash : d.flash ≡ flash_undone taken old.device.flash flashes
  pub undoable : Undoable (drop taken flashes) d journal
  pub settled : List ℕ
  pub is_settled : IsFlashSettled old settled
  pub lines : journal ≡ old.journal ++ undo_text old taken settled

-- An undo of a journal with segments.
pub record Undoes (taken : ℕ) (flashes : List (List ℕ)) (old new : RigState)
    (result : Result ℕ Fault) : Type 0 where
  pub moments : LeavesOnly (AmidUndo taken flashes old) old new
  pub left : AmidUndo taken flashes old new.device new.journal
  pub honest : new.is_honest
  pub answer : IfOk result (λ n. n ≡ taken)
  pub done : OnOk result (AreUndone taken flashes old new.device new.journal)
  pub settled : OnOk result (1 ≤ taken → IsSettled new.device)
  pub fails : IfErr result IsOutsideFault

-- An undo of a journal without a segment: nothing but owed bytes changes, and it answers 0.
pub record UndoesNothing (old new : RigState) (result : Result ℕ Fault) : Type 0 where
  pub moments : LeavesOnly (IsUntouched old) old new
  pub left : IsUntouched old new.device new.journal
  pub honest : new.is_honest
  pub answer : IfOk result (λ n. n ≡ 0)
  pub fails : IfErr result IsJournalOrMemory

-- The device isn't the journal's: no line was added, only bytes of the pages at risk changed, and it
-- awaits no more settling bytes than before, or than a question does.
pub record IsElsewhere (old : RigState) (d : Device) (journal : List ℕ) : Type 0 where
  pub journal_same : journal ≡ old.journal
  pub make : SameMake old.device d
  pub flash : SameOutside old.device.chip (risked_at old.journal) old.device.flash d.flash
  pub harmless : Harmless d (byte_at_journal old.journal) (risked_at old.journal)
  pub awaits : (most : ℕ) → 267 ≤ most → Awaits (byte_at_journal old.journal) most old.device
      → Awaits (byte_at_journal old.journal) most d
  pub owed : length d.owed ≤ 4096
