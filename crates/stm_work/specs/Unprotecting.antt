-- What takes the write protection off a device where a session was stopped.
use Rattle.std.specs.Prelude.{◌≡◌, ◌++◌, true, false, List, Option, None, Some, if◌then◌else◌}
use Rattle.std.specs.Prelude.{Result, Err, IfErr, OnOk, MatchResult}
use Rattle.stm_wire.specs.declared.fault.WireFault.{WireFault}
use Rattle.stm_wire.specs.Chip.{ChipData}
use Rattle.stm_wire.specs.Dialogue.{GoesOn}
use Rattle.stm_wire.specs.Rig.{RigState}
use Rattle.stm_wire.specs.Sending.{BreaksOff, IsHeldToEnd}
use Rattle.stm_journal.specs.declared.fault.JournalFault.{JournalFault}
use Rattle.stm_journal.specs.Calls.{AppendsInPart, AreFetches, HasJournalCause, Loads}
use Rattle.stm_journal.specs.Greetings.{is_greeted}
use Rattle.stm_journal.specs.Journals.{Loaded}
use Rattle.stm_journal.specs.States.{StateData, names_other, names_other_board}
use Rattle.stm_session.specs.declared.asking_board.Board.{Board}
use Rattle.stm_session.specs.declared.fault.Fault.{Fault}
use Rattle.stm_session.specs.declared.fault.Fault.TheVariants.{OtherBoard, OtherDevice}
use Rattle.stm_session.specs.AskedBoard.{AsksWhich}
use Rattle.stm_session.specs.Fault.{HasSessionCause, fault_of, fault_of_journal}
use Rattle.stm_session.specs.Greeting.{ReadsFirst}
use Rattle.stm_session.specs.Silence.{silent_line}
use Rattle.stm_session.specs.Unprotecting.{unprotect_frame, unprotect_turns}

-- the journal says that another greeting may come, where its last line is one
pub record TellsSilence (old new : RigState) (came : Result (Unit {0}) Fault) : Type 0 where
  pub cause : HasSessionCause old new came
  pub calls : GoesOn (ReadsFirst (AppendsInPart silent_line)) old.calls new.calls
  pub alone : old.is_honest → is_greeted old.journal ≡ false → GoesOn AreFetches old.calls new.calls
  pub told : old.is_honest → is_greeted old.journal ≡ true
      → OnOk came (new.journal ≡ old.journal ++ silent_line)

-- why a board isn't the one that a journal names
abbrev pub misnamed : StateData → Board → Option Fault
misnamed s board = if names_other board.id s then Some OtherDevice
    else if names_other_board board.unique s then Some OtherBoard else None

-- the command of AN3155, section 3.10, behind whose second acknowledgement the device resets itself;
-- and then the journal says that another greeting may come
pub record UnprotectsThere {R : Type 0} (view : R → RigState) (old new : R)
    (done : Result (Unit {0}) Fault) : Type 0 where
  pub mid : R
  pub said : Result (Unit {0}) WireFault
  pub held : OnOk said (IsHeldToEnd unprotect_frame unprotect_turns (view old) (view mid))
  pub broken : IfErr said
      (λ fault. BreaksOff fault unprotect_frame unprotect_turns (view old) (view mid))
  pub goes_on : MatchResult said (λ unprotected. TellsSilence (view mid) (view new) done)
      (λ fault. (new ≡ mid) × (done ≡ Err (fault_of fault)))

abbrev pub UnprotectsUnless : {R : Type 0} → (R → RigState) → Option Fault → R → R
    → Result (Unit {0}) Fault → Type 0
UnprotectsUnless view (Some fault) old new done = (new ≡ old) × (done ≡ Err fault)
UnprotectsUnless view None old new done = UnprotectsThere view old new done

-- a device is asked which board it is, and has to be the one that the journal names
pub record AsksThenUnprotects {R : Type 0} (view : R → RigState) (table : List ChipData)
    (s : StateData) (old new : R) (done : Result (Unit {0}) Fault) : Type 0 where
  pub mid : R
  pub asked : Result Board Fault
  pub asks : AsksWhich table (view old) (view mid) asked
  pub goes_on : MatchResult asked (λ board. UnprotectsUnless view (misnamed s board) mid new done)
      (λ fault. (new ≡ mid) × (done ≡ Err fault))

-- The journal is read, the device asked, and its write protection taken off.
pub record UnprotectsBegun {R : Type 0} (view : R → RigState) (table : List ChipData) (old new : R)
    (done : Result (Unit {0}) Fault) : Type 0 where
  pub mid : R
  pub journal : Result Loaded JournalFault
  pub quiet : GoesOn AreFetches (view old).calls (view mid).calls
  pub cause : HasJournalCause (view old) (view mid) journal
  pub loads : (view old).is_honest → Loads (view old) (view mid) journal
  pub goes_on : MatchResult journal (λ l. AsksThenUnprotects view table l.state mid new done)
      (λ fault. (new ≡ mid) × (done ≡ Err (fault_of_journal fault)))
