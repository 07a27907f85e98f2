-- The faults of a session, and what they say of a Rig on any line.
use Rattle.std.specs.Prelude.{◌≡◌, ◌≤◌, Result, Ok, Err, OnOk, IfErr}
use Rattle.stm_wire.specs.declared.fault.WireFault.{WireFault}
use Rattle.stm_wire.specs.declared.fault.WireFault.TheVariants as wire
use Rattle.stm_wire.specs.Rig.{RigState, Rises}
use Rattle.stm_journal.specs.declared.fault.JournalFault.{JournalFault}
use Rattle.stm_journal.specs.declared.fault.JournalFault.TheVariants as journal
use Rattle.stm_session.specs.declared.fault.Fault.{Fault}
use Rattle.stm_session.specs.declared.fault.Fault.TheVariants as fault

-- the fault of a session that a command's fault is
abbrev pub fault_of : WireFault → Fault
fault_of wire.Line = fault.Line
fault_of wire.Nack = fault.Device
fault_of wire.Quiet = fault.Device
fault_of wire.Garbled = fault.Device

-- and that of a call of the journal
abbrev pub fault_of_journal : JournalFault → Fault
fault_of_journal journal.File = fault.Journal
fault_of_journal (journal.Bad line) = fault.BadJournal line
fault_of_journal journal.OtherDevice = fault.OtherDevice
fault_of_journal journal.OtherBoard = fault.OtherBoard
fault_of_journal journal.Memory = fault.Memory

-- the answers of a command and of a call of the journal, as those of a session
abbrev pub of_command : {T : Type 0} → Result T WireFault → Result T Fault
of_command (Ok x) = Ok x
of_command (Err e) = Err (fault_of e)

abbrev pub of_call : {T : Type 0} → Result T JournalFault → Result T Fault
of_call (Ok x) = Ok x
of_call (Err e) = Err (fault_of_journal e)

-- What a fault comes of: the line failed, the device doesn't follow the protocol, the file of the
-- journal or memory failed; or the journal has a segment that must be ended or undone first; or
-- something else is refused. So is a page that was read again and holds other bytes than it was
-- given, as an image that differs is: each frame was answered whole, so that no step failed.
pub data Cause : Type 0 where
  of_line : Cause
  of_protocol : Cause
  of_file : Cause
  of_memory : Cause
  of_session : Cause
  of_refusal : Cause

-- what each fault comes of
abbrev pub cause_of : Fault → Cause
cause_of fault.Line = of_line
cause_of fault.Journal = of_file
cause_of fault.Memory = of_memory
cause_of fault.Unfinished = of_session
cause_of (fault.UnknownChip id) = of_refusal
cause_of fault.OutOfFlash = of_refusal
cause_of fault.NoErase = of_refusal
cause_of fault.InSession = of_session
cause_of (fault.Differs address) = of_refusal
cause_of (fault.NotHeld n) = of_refusal
cause_of fault.Device = of_protocol
cause_of (fault.BadJournal line) = of_refusal
cause_of fault.OtherDevice = of_refusal
cause_of fault.OtherBoard = of_refusal
cause_of fault.BoardChanged = of_refusal
cause_of fault.Full = of_refusal

-- the line, the file of the journal or memory failed, and nothing else is the matter
abbrev pub IsOutside : Cause → Type 0
IsOutside of_line = Unit {0}
IsOutside of_file = Unit {0}
IsOutside of_memory = Unit {0}
IsOutside _ = ⊥

-- the fault comes of the line, the file of the journal or memory
abbrev pub IsOutsideFault : Fault → Type 0
IsOutsideFault e = IsOutside (cause_of e)

-- the file of the journal or memory failed: the line wasn't used
abbrev pub IsUnheard : Cause → Type 0
IsUnheard of_file = Unit {0}
IsUnheard of_memory = Unit {0}
IsUnheard _ = ⊥

-- the fault comes of the file of the journal or memory
abbrev pub IsJournalOrMemory : Fault → Type 0
IsJournalOrMemory e = IsUnheard (cause_of e)

-- a fault of talking to a device
abbrev pub IsOfTalking : Cause → Type 0
IsOfTalking of_line = Unit {0}
IsOfTalking of_protocol = Unit {0}
IsOfTalking _ = ⊥

abbrev pub IsOfLine : Fault → Type 0
IsOfLine e = IsOfTalking (cause_of e)

-- something is refused: for the state of the journal, or for what the table
-- or a command makes of it
abbrev pub IsRefusing : Cause → Type 0
IsRefusing of_session = Unit {0}
IsRefusing of_refusal = Unit {0}
IsRefusing _ = ⊥

abbrev pub IsRefusal : Fault → Type 0
IsRefusal e = IsRefusing (cause_of e)

-- something is refused for what the table or a command makes of it
abbrev pub IsRefusedLater : Cause → Type 0
IsRefusedLater of_refusal = Unit {0}
IsRefusedLater _ = ⊥

abbrev pub IsLaterRefusal : Fault → Type 0
IsLaterRefusal e = IsRefusedLater (cause_of e)

-- the count of such failures rose
abbrev pub RisesBy : RigState → RigState → Cause → Type 0
RisesBy old new of_line = Rises old.line_failures new.line_failures
RisesBy old new of_file = Rises old.journal_failures new.journal_failures
RisesBy old new _ = Unit {0}

abbrev pub RisesFor : RigState → RigState → Fault → Type 0
RisesFor old new e = RisesBy old new (cause_of e)

-- the count of the line's failures is as it was, unless this is what the fault came of
abbrev pub KeepsLineCountBy : RigState → RigState → Cause → Type 0
KeepsLineCountBy old new of_line = Unit {0}
KeepsLineCountBy old new _ = new.line_failures ≡ old.line_failures

abbrev pub KeepsLineCount : RigState → RigState → Fault → Type 0
KeepsLineCount old new e = KeepsLineCountBy old new (cause_of e)

-- the count of the file's failures is as it was, unless this is what the fault came of
abbrev pub KeepsFileCountBy : RigState → RigState → Cause → Type 0
KeepsFileCountBy old new of_file = Unit {0}
KeepsFileCountBy old new _ = new.journal_failures ≡ old.journal_failures

abbrev pub KeepsFileCount : RigState → RigState → Fault → Type 0
KeepsFileCount old new e = KeepsFileCountBy old new (cause_of e)

-- On any line: a fault of the line or of the journal is answered only where the count of such
-- failures rose. Where one of the counts changed, its fault is answered and no other, nor Ok. An
-- honest Rig stays honest, whatever its device is.
pub record HasSessionCause {T : Type 0} (old new : RigState)
    (result : Result T Fault) : Type 0 where
  pub line_later : old.line_failures ≤ new.line_failures
  pub journal_later : old.journal_failures ≤ new.journal_failures
  pub failed : IfErr result (RisesFor old new)
  pub line_done : OnOk result (new.line_failures ≡ old.line_failures)
  pub line_kept : IfErr result (KeepsLineCount old new)
  pub journal_done : OnOk result (new.journal_failures ≡ old.journal_failures)
  pub journal_kept : IfErr result (KeepsFileCount old new)
  pub honest : old.is_honest → new.is_honest
