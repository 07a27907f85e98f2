-- The steps of one call: a session, the journal that is kept, Go, each only behind one that
-- answered Ok.
use Rattle.std.specs.Prelude.{◌≡◌, ◌↔◌, ℕ, Bool, true, false, List, Option, Some, None}
use Rattle.std.specs.Prelude.{Result, Ok, Err, IfErr, IfOk, MatchResult, OnErr, OnOk}
use Rattle.std.specs.declared.alloc.AllocError.{AllocError}
use Rattle.stm_wire.specs.Chip.{ChipData}
use Rattle.stm_wire.specs.Device.{Device}
use Rattle.stm_wire.specs.Dialogue.{GoesOn}
use Rattle.stm_wire.specs.Rig.{RigState}
use Rattle.stm_journal.specs.Calls.{AreFetches}
use Rattle.stm_session.specs.declared.asking_board.Board.{Board}
use Rattle.stm_words.specs.declared.sequel.Sequel.{Sequel}
use Rattle.stm_files.specs.Ending.{EndsJournal}
use Rattle.stm_work.specs.declared.action.Action.TheVariants as action
use Rattle.stm_work.specs.declared.answer.Answer.{Answer}
use Rattle.stm_work.specs.declared.board.Asking.{Asking}
use Rattle.stm_work.specs.declared.board.Question.{Question}
use Rattle.stm_work.specs.declared.failure.Failure.{Failure}
use Rattle.stm_work.specs.declared.failure.Failure.TheVariants.{Memory}
use Rattle.stm_work.specs.declared.steps.Steps.{Steps}
use Rattle.stm_work.specs.declared.work.Work.{Work}
use Rattle.stm_work.specs.Action.{DoesAction, Works}
use Rattle.stm_work.specs.Board.{AsksFirst, IsOfBoard, asking_if}
use Rattle.stm_work.specs.Keeping.{IsFinished}

-- what a Rig tells of itself is the same
pub record Stays (old new : RigState) : Type 0 where
  pub honest : old.is_honest ↔ new.is_honest
  pub device : new.device ≡ old.device
  pub journal : new.journal ≡ old.journal
  pub line_failures : new.line_failures ≡ old.line_failures
  pub journal_failures : new.journal_failures ≡ old.journal_failures
  pub moment : new.moment ≡ old.moment
  pub left_since : (t : ℕ) (d : Device) (journal : List ℕ)
      → old.left_since t d journal ↔ new.left_since t d journal
  pub calls : new.calls ≡ old.calls
  pub has_room : old.has_room ↔ new.has_room
  pub long_gets : new.long_gets ≡ old.long_gets
  pub told : new.told ≡ old.told

-- the journal is kept, by the Rig's own way; where it can't be, it was only read
pub record KeepsJournal {R : Type 0} (view : R → RigState) (old new : R)
    (kept : Result ℕ Failure) : Type 0 where
  pub quiet : OnErr kept (GoesOn AreFetches (view old).calls (view new).calls)
  pub ends : (view old).is_honest → OnOk kept (EndsJournal (view old) (view new))
  pub finished : (view old).is_honest → IfOk kept (IsFinished (view old).journal)

-- the journal is kept, where that is asked for; else nothing is done
abbrev pub MayKeep : {R : Type 0} → (R → RigState) → Bool → R → R → Result (Option ℕ) Failure
    → Type 0
MayKeep view false old new kept = (new ≡ old) × (kept ≡ Ok None)
MayKeep view true old new kept = (said : Result ℕ Failure) × KeepsJournal view old new said
    × MatchResult said (λ count. kept ≡ Ok (Some count)) (λ failure. kept ≡ Err failure)

-- the device is let go, where that is asked for; else nothing is done
abbrev pub MayGo : {R : Type 0} → (R → RigState) → List ChipData → Option ℕ → R → R
    → Result (Unit {0}) Failure
    → Type 0
MayGo view table None old new gone = (new ≡ old) × (gone ≡ Ok tt)
MayGo view table (Some address) old new gone = (said : Result Answer Failure)
    × DoesAction view table (action.Go address) old new said
    × MatchResult said (λ done. gone ≡ Ok tt) (λ failure. gone ≡ Err failure)

-- behind a journal that was kept, or wasn't to be, Go is sent; behind one that couldn't be kept
-- nothing is, and that is why the steps end
pub record GoesBehind {R : Type 0} (view : R → RigState) (table : List ChipData)
    (address : Option ℕ) (mid new : R) (kept : Result (Option ℕ) Failure) (steps : Steps)
    : Type 0 where
  pub ok : IfOk kept (λ count. (steps.kept ≡ count)
      × ((gone : Result (Unit {0}) Failure) × MayGo view table address mid new gone
      × MatchResult gone (λ done. steps.failure ≡ None) (λ failure. steps.failure ≡ Some failure)))
  pub err : IfErr kept (λ failure. (new ≡ mid) × (steps.kept ≡ None)
      × (steps.failure ≡ Some failure))

-- What follows a session that answered.
pub record FollowsSession {R : Type 0} (view : R → RigState) (table : List ChipData) (board : Option Board)
    (sequel : Sequel) (written new : R) (said : Answer) (steps : Steps) : Type 0 where
  pub named : steps.board ≡ board
  pub answer : steps.answer ≡ said
  pub mid : R
  pub kept : Result (Option ℕ) Failure
  pub keeps : MayKeep view sequel.keeps written mid kept
  pub goes : GoesBehind view table sequel.go mid new kept steps

-- A session, and what follows it: behind one that failed nothing is done.
pub record TakesKnown {R : Type 0} (view : R → RigState) (table : List ChipData)
    (board : Option Board) (work : Work) (sequel : Sequel) (old new : R)
    (result : Result Steps Failure) : Type 0 where
  pub written : R
  pub said : Result Answer Failure
  pub works : Works view table work old written said
  pub ok : IfOk said (λ answer. (steps : Steps) × (result ≡ Ok steps)
      × FollowsSession view table board sequel written new answer steps)
  pub err : IfErr said (λ failure. (new ≡ written) × (result ≡ Err failure))

-- A device told which board it is. Its size is heard, which changes nothing that the Rig tells of
-- itself. The session has the table of that board; where there was no memory for it nothing more is
-- called.
pub record TakesTold {R : Type 0} (view : R → RigState) (table : List ChipData) (board : Board)
    (work : Work) (sequel : Sequel) (old new : R) (result : Result Steps Failure) : Type 0 where
  pub heard : R
  pub hears : Stays (view old) (view heard)
  pub own : Result (List ChipData) AllocError
  pub is_own : IfOk own (IsOfBoard table board)
  pub goes_on : MatchResult own
      (λ own. TakesKnown view own (Some board) work sequel heard new result)
      (λ error. (new ≡ heard) × (result ≡ Err Memory))

-- A device that was asked, or wasn't: where no board came its session has the table and the work as
-- they are.
abbrev pub TakesAsked : {R : Type 0} → (R → RigState) → List ChipData → Option Board → Work → Sequel
    → R → R → Result Steps Failure → Type 0
TakesAsked view table None work sequel old new result =
    TakesKnown view table None work sequel old new result
TakesAsked view table (Some board) work sequel old new result =
    TakesTold view table board work sequel old new result

-- The steps of one call. The device is asked first which board it is, where that is due; a failure of
-- that is the answer, and nothing more is called.
pub record TakesSteps {R : Type 0} (view : R → RigState) (table : List ChipData)
    (question : Question) (work : Work) (sequel : Sequel) (old new : R)
    (result : Result Steps Failure) : Type 0 where
  pub mid : R
  pub came : Result (Option Board) Failure
  pub asking : Option Asking
  pub asks : AsksFirst view table asking question.wanted old mid came
  pub goes_on : MatchResult came (λ board. TakesAsked view table board work sequel mid new result)
      (λ failure. (new ≡ mid) × (result ≡ Err failure))
  pub is_asking : asking ≡ asking_if question.is_asked work
