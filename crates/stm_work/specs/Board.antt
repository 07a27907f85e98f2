-- Which board a device is: how it is asked before its session, and what the session makes of it.
use Rattle.std.specs.Prelude.{◌≡◌, ◌≢◌, ◌⊎◌, ◌-◌, ◌≤◌, ℕ, Bool, true, false, nat_lt, List, []}
use Rattle.std.specs.Prelude.{length, drop, map, Option, Some, None, Result, Ok, Err, IfErr, IfOk}
use Rattle.std.specs.Prelude.{MatchResult, bytes_eq, if◌then◌else◌, is_some}
use Rattle.std.specs.Borrow.{Bor}
use Rattle.std.specs.Char.{to_ascii_lowercase}
use Rattle.hex.specs.Hex.{encode_upper}
use Rattle.stm_wire.specs.Chip.{ChipData}
use Rattle.stm_wire.specs.Dialogue.{GoesOn}
use Rattle.stm_wire.specs.Rig.{RigState}
use Rattle.stm_chip.specs.Document.{HaveInPlace, IsChipWith, IsNewId}
use Rattle.stm_journal.specs.declared.fault.JournalFault.{JournalFault}
use Rattle.stm_journal.specs.Calls.{AreFetches, HasJournalCause, Loads}
use Rattle.stm_journal.specs.Journals.{Loaded}
use Rattle.stm_journal.specs.States.{StateData, board_of, depth, is_unfinished}
use Rattle.stm_session.specs.declared.asking_board.Board.{Board}
use Rattle.stm_session.specs.declared.fault.Fault.{Fault}
use Rattle.stm_session.specs.declared.fault.Fault.TheVariants.{InSession, Unfinished}
use Rattle.stm_session.specs.declared.fault.Fault.TheVariants.{OtherBoard as OtherNamed}
use Rattle.stm_session.specs.AskedBoard.{AsksWhich}
use Rattle.stm_session.specs.ToldBoard.{chip_of_board}
use Rattle.stm_session.specs.Fault.{fault_of_journal}
use Rattle.stm_work.specs.declared.action.Action.TheVariants as action
use Rattle.stm_work.specs.declared.board.Asking.{Asking}
use Rattle.stm_work.specs.declared.board.Asking.TheVariants.{OfFinished, OfBegun, OfClosed}
use Rattle.stm_work.specs.declared.board.Due.{Due}
use Rattle.stm_work.specs.declared.board.Due.TheVariants.{Not, Asked, OfNamed}
use Rattle.stm_work.specs.declared.failure.Failure.{Failure}
use Rattle.stm_work.specs.declared.failure.Failure.TheVariants.{Memory, NoBoard, OtherBoard}
use Rattle.stm_work.specs.declared.failure.Failure.TheVariants.{Session}
use Rattle.stm_work.specs.declared.work.Work.{Work}
use Rattle.stm_work.specs.declared.work.Work.TheVariants as work

-- whether it is asked before Go or a protection, by the board that the journal names, and by whether
-- one is wanted: it has to be the one that is named
abbrev pub due_by : Option (List ℕ) → Bool → Due
due_by (Some unique) is_wanted = OfNamed unique
due_by None true = Asked
due_by None false = Not

-- whether it is asked beside this journal: before an undo where there is something to undo;
-- Go and the protections want a journal that has no segment, any other session one that is finished
abbrev pub due_beside : Asking → Bool → StateData → Result Due Fault
due_beside OfFinished is_wanted s = if is_unfinished s then Err Unfinished else Ok Asked
due_beside OfBegun is_wanted s = Ok (if nat_lt 0 (depth s) then Asked else Not)
due_beside OfClosed is_wanted s =
    if nat_lt 0 (depth s) then Err InSession else Ok (due_by (board_of s) is_wanted)

-- Whether a device is asked: the journal is read, and nothing more.
pub record IsDue (asking : Asking) (is_wanted : Bool) (old new : RigState)
    (due : Result Due Fault) : Type 0 where
  pub journal : Result Loaded JournalFault
  pub quiet : GoesOn AreFetches old.calls new.calls
  pub cause : HasJournalCause old new journal
  pub loads : old.is_honest → Loads old new journal
  pub is : MatchResult journal (λ l. due ≡ due_beside asking is_wanted l.state)
      (λ fault. due ≡ Err (fault_of_journal fault))

-- a unique id, in hexadecimal digits, ends in these, of either case
abbrev pub EndsIn : List ℕ → List ℕ → Type 0
EndsIn unique digits = (length digits ≤ length (encode_upper unique))
    × (map to_ascii_lowercase (drop (length (encode_upper unique) - length digits)
    (encode_upper unique)) ≡ map to_ascii_lowercase digits)

-- A board is wanted whose unique id ends in these digits: it is the one that came; or it told none,
-- or another, or there was no memory to compare them.
pub record AllowsNamed (board : Board) (digits : List ℕ)
    (allowed : Result (Option Board) Failure) : Type 0 where
  pub ok : IfOk allowed (λ came. (came ≡ Some board) × (board.unique ≢ [])
      × EndsIn board.unique digits)
  pub err : IfErr allowed (λ failure. (failure ≡ Memory)
      ⊎ ((failure ≡ NoBoard) × (board.unique ≡ []))
      ⊎ ((failure ≡ OtherBoard) × ¬ EndsIn board.unique digits))

-- The board that came, unless another is wanted.
abbrev pub Allows : Board → Option (Bor (List ℕ)) → Result (Option Board) Failure → Type 0
Allows board None allowed = allowed ≡ Ok (Some board)
Allows board (Some digits) allowed = AllowsNamed board digits.now allowed

-- A device is asked which board it is; what it told is allowed or not.
pub record AsksAndAllows {R : Type 0} (view : R → RigState) (table : List ChipData)
    (wanted : Option (Bor (List ℕ))) (old new : R) (answer : Result (Option Board) Failure) : Type 0 where
  pub asked : Result Board Fault
  pub asks : AsksWhich table (view old) (view new) asked
  pub is : MatchResult asked (λ board. Allows board wanted answer)
      (λ fault. answer ≡ Err (Session fault))

-- a board that came has to be the one with this unique id
abbrev pub as_named : List ℕ → Option Board → Result (Option Board) Failure
as_named unique None = Err (Session OtherNamed)
as_named unique (Some board) =
    if bytes_eq board.unique unique then Ok (Some board) else Err (Session OtherNamed)

-- A device is asked which board it is; what it told is allowed or not, and has to be this one.
pub record AsksNamed {R : Type 0} (view : R → RigState) (table : List ChipData)
    (wanted : Option (Bor (List ℕ))) (unique : List ℕ) (old new : R)
    (answer : Result (Option Board) Failure) : Type 0 where
  pub allowed : Result (Option Board) Failure
  pub asks : AsksAndAllows view table wanted old new allowed
  pub is : MatchResult allowed (λ came. answer ≡ as_named unique came)
      (λ failure. answer ≡ Err failure)

-- the device is asked where that is due; else nothing is called
abbrev pub AsksIf : {R : Type 0} → (R → RigState) → List ChipData → Option (Bor (List ℕ))
    → Due → R → R → Result (Option Board) Failure → Type 0
AsksIf view table wanted Not old new answer = (new ≡ old) × (answer ≡ Ok None)
AsksIf view table wanted Asked old new answer =
    AsksAndAllows view table wanted old new answer
AsksIf view table wanted (OfNamed unique) old new answer =
    AsksNamed view table wanted unique old new answer

-- The journal is read, and the device asked where that is due beside it; where it can't be read, or
-- has to be finished, nothing more is called.
pub record AsksWhereDue {R : Type 0} (view : R → RigState) (table : List ChipData)
    (asking : Asking) (wanted : Option (Bor (List ℕ))) (old new : R)
    (answer : Result (Option Board) Failure) : Type 0 where
  pub mid : R
  pub due : Result Due Fault
  pub reads : IsDue asking (is_some wanted) (view old) (view mid) due
  pub is : MatchResult due (λ is. AsksIf view table wanted is mid new answer)
      (λ fault. (new ≡ mid) × (answer ≡ Err (Session fault)))

-- A device that isn't asked is none that is wanted, and nothing is called.
abbrev pub AsksFirst : {R : Type 0} → (R → RigState) → List ChipData → Option Asking
    → Option (Bor (List ℕ)) → R → R → Result (Option Board) Failure → Type 0
AsksFirst view table (Some asking) wanted old new answer =
    AsksWhereDue view table asking wanted old new answer
AsksFirst view table None (Some digits) old new answer =
    (new ≡ old) × (answer ≡ Err NoBoard)
AsksFirst view table None None old new answer = (new ≡ old) × (answer ≡ Ok None)

-- The table for the session with a board: its chip, where there is one, is the board's.
abbrev pub IsOfBoard : List ChipData → Board → List ChipData → Type 0
IsOfBoard table board new =
    (IsNewId table board.id × (new ≡ table))
    ⊎ ((chip : ChipData) × IsChipWith table board.id chip
    × HaveInPlace table (chip_of_board chip board) new)

-- Beside which journals the device of a work is asked first.
abbrev pub asking_of : Work → Asking
asking_of (work.Act (action.Go address)) = OfClosed
asking_of (work.Act (action.Protect kind)) = OfClosed
asking_of (work.Act (action.Undo count)) = OfBegun
asking_of (work.Act (action.UndoVerified count)) = OfBegun
asking_of (work.Undo extent verifies) = OfBegun
asking_of other = OfFinished

-- whether, and beside which journals, the device of a work is asked: never one whose write protection
-- is taken off while a session is unfinished
abbrev pub asking_if : Bool → Work → Option Asking
asking_if true (work.Act action.UnprotectFresh) = None
asking_if true (work.Act action.UnprotectBegun) = None
asking_if true work = Some (asking_of work)
asking_if false work = None
