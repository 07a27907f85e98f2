-- A device that is watched: how it is asked who it is, how watching begins at it, and what is done
-- on it then.
use Rattle.std.specs.Prelude.{◌≡◌, ℕ, Bool, true, List, take, Option, Some, None, Result, Ok, Err}
use Rattle.std.specs.Prelude.{IfOk, MatchResult, OnOk}
use Rattle.std.specs.Borrow.{Bor}
use Rattle.std.specs.declared.alloc.AllocError.{AllocError}
use Rattle.stm_wire.specs.declared.get_command.Commands.{Commands}
use Rattle.stm_wire.specs.Chip.{ChipData}
use Rattle.stm_wire.specs.Device.{IsDevice, IsSettled}
use Rattle.stm_wire.specs.Rig.{RigState}
use Rattle.stm_chip.specs.Document.{IsChipWith}
use Rattle.stm_session.specs.declared.asking_board.Board.{Board}
use Rattle.stm_session.specs.declared.fault.Fault.{Fault}
use Rattle.stm_words.specs.declared.sequel.Sequel.{Sequel}
use Rattle.stm_watch.specs.Known.{Known}
use Rattle.stm_watch.specs.Seen.{IsSeen}
use Rattle.stm_work.specs.declared.board.Asking.{Asking}
use Rattle.stm_work.specs.declared.board.Due.{Due}
use Rattle.stm_work.specs.declared.board.Due.TheVariants.{Not, Asked, OfNamed}
use Rattle.stm_work.specs.declared.board.Question.{Question}
use Rattle.stm_work.specs.declared.failure.Failure.{Failure}
use Rattle.stm_work.specs.declared.failure.Failure.TheVariants.{Memory, Session}
use Rattle.stm_work.specs.declared.plan.Plan.{Plan}
use Rattle.stm_work.specs.declared.steps.Steps.{Steps}
use Rattle.stm_work.specs.declared.watching.Watching.{Watching}
use Rattle.stm_work.specs.declared.watching.Watching.TheVariants.{FromBoard, FromId}
use Rattle.stm_work.specs.declared.watching.Watching.TheVariants.{Not as Unwatched}
use Rattle.stm_work.specs.declared.work.Work.{Work}
use Rattle.stm_work.specs.Board.{AsksAndAllows, AsksIf, IsDue, IsOfBoard, asking_of}
use Rattle.stm_work.specs.Steps.{MayGo, Stays, TakesKnown, TakesSteps}

-- Watching begins by what is known: where the device may be one of which this is known, the Rig
-- follows the model as before, and all else that it tells is as it was.
pub record IsWatchingBegun (k : Known) (old new : RigState) : Type 0 where
  pub honest : old.is_honest → IsSeen k old.device → new.is_honest
  pub device : new.device ≡ old.device
  pub journal : new.journal ≡ old.journal
  pub calls : new.calls ≡ old.calls
  pub told : new.told ≡ old.told

-- A settled device that follows the model told its own version and codes.
pub record TellsCodes (old new : RigState) (told : Commands) : Type 0 where
  pub honest : new.is_honest
  pub device : new.device ≡ old.device
  pub model : IsDevice old.device
  pub version : told.version ≡ old.device.version
  pub codes : take told.count told.codes ≡ old.device.codes

abbrev pub AsksCodes : RigState → RigState → Result Commands Fault → Type 0
AsksCodes old new answer =
    old.is_honest → IsSettled old.device → IfOk answer (TellsCodes old new)

-- At a settled device that follows the model, whose chip the table has, watching begins with nothing
-- changed.
abbrev pub BeginsWatching : List ChipData → ℕ → RigState → RigState → Result (Unit {0}) Failure → Type 0
BeginsWatching table id old new begun =
    old.is_honest → IsSettled old.device → IsChipWith table id old.device.chip
    → OnOk begun (new.is_honest × (new.device ≡ old.device))

-- A device that is to be watched is asked which board it is beside each journal that lets its
-- session begin, where that sends anything at all: before Go and a protection too.
pub record AsksToWatch {R : Type 0} (view : R → RigState) (table : List ChipData)
    (asking : Asking) (wanted : Option (Bor (List ℕ))) (old new : R)
    (answer : Result (Option Board) Failure) : Type 0 where
  pub mid : R
  pub due : Result Due Fault
  pub reads : IsDue asking true (view old) (view mid) due
  pub is : MatchResult due (λ is. AsksIf view table wanted is mid new answer)
      (λ fault. (new ≡ mid) × (answer ≡ Err (Session fault)))

-- whichever board the journal names, a device that isn't asked for it is asked who it is
abbrev pub AsksWhoIf : {R : Type 0} → (R → RigState) → List ChipData → Due → R → R
    → Result (Option Board) Failure → Type 0
AsksWhoIf view bare Not old new answer = (new ≡ old) × (answer ≡ Ok None)
AsksWhoIf view bare Asked old new answer = AsksAndAllows view bare None old new answer
AsksWhoIf view bare (OfNamed unique) old new answer = AsksAndAllows view bare None old new answer

-- The same of one that isn't asked which board it is, by a table whose chips tell none.
pub record AsksWho {R : Type 0} (view : R → RigState) (bare : List ChipData)
    (asking : Asking) (old new : R) (answer : Result (Option Board) Failure) : Type 0 where
  pub mid : R
  pub due : Result Due Fault
  pub reads : IsDue asking true (view old) (view mid) due
  pub is : MatchResult due (λ is. AsksWhoIf view bare is mid new answer)
      (λ fault. (new ≡ mid) × (answer ≡ Err (Session fault)))

-- Go, watched from a beginning of its own on: the journal was ended before it.
pub record GoesWatched {R : Type 0} (view : R → RigState) (table : List ChipData) (id address : ℕ)
    (old new : R) (gone : Result (Unit {0}) Failure) : Type 0 where
  pub begun : R
  pub said : Result (Unit {0}) Failure
  pub begins : BeginsWatching table id (view old) (view begun) said
  pub goes : MatchResult said (λ done. MayGo view table (Some address) begun new gone)
      (λ failure. (new ≡ begun) × (gone ≡ Err failure))

-- Go behind steps of which none failed, where one is asked for; else nothing more is called.
abbrev pub GoesIf : {R : Type 0} → (R → RigState) → List ChipData → ℕ → Option ℕ → Option Failure
    → Steps → R → R → Steps → Type 0
GoesIf view table id None failure steps old new last = (new ≡ old) × (last ≡ steps)
GoesIf view table id (Some address) (Some failure) steps old new last =
    (new ≡ old) × (last ≡ steps)
GoesIf view table id (Some address) None steps old new last =
    (gone : Result (Unit {0}) Failure) × GoesWatched view table id address old new gone
    × (last.board ≡ steps.board) × (last.answer ≡ steps.answer) × (last.kept ≡ steps.kept)
    × MatchResult gone (λ done. last.failure ≡ None) (λ failure. last.failure ≡ Some failure)

-- The session and what follows it but Go, and then Go.
pub record TakesAndGoes {R : Type 0} (view : R → RigState) (table : List ChipData) (id : ℕ)
    (board : Option Board) (work : Work) (sequel : Sequel) (old new : R)
    (result : Result Steps Failure) : Type 0 where
  pub mid : R
  pub taken : Result Steps Failure
  pub takes : TakesKnown view table board work (record sequel { go = None }) old mid taken
  pub goes_on : MatchResult taken (λ steps. (last : Steps) × (result ≡ Ok last)
      × GoesIf view table id sequel.go steps.failure steps mid new last)
      (λ failure. (new ≡ mid) × (result ≡ Err failure))

-- A device that told this id is watched from here on.
pub record TakesSettled {R : Type 0} (view : R → RigState) (table : List ChipData) (id : ℕ)
    (board : Option Board) (work : Work) (sequel : Sequel) (old new : R)
    (result : Result Steps Failure) : Type 0 where
  pub begun : R
  pub said : Result (Unit {0}) Failure
  pub begins : BeginsWatching table id (view old) (view begun) said
  pub goes_on : MatchResult said
      (λ done. TakesAndGoes view table id board work sequel begun new result)
      (λ failure. (new ≡ begun) × (result ≡ Err failure))

-- The same of one that told which board it is.
pub record TakesToldWatched {R : Type 0} (view : R → RigState) (table : List ChipData)
    (board : Board) (work : Work) (sequel : Sequel) (old new : R)
    (result : Result Steps Failure) : Type 0 where
  pub heard : R
  pub hears : Stays (view old) (view heard)
  pub own : Result (List ChipData) AllocError
  pub is_own : IfOk own (IsOfBoard table board)
  pub goes_on : MatchResult own
      (λ own. TakesSettled view own board.id (Some board) work sequel heard new result)
      (λ error. (new ≡ heard) × (result ≡ Err Memory))

-- One that was asked, or wasn't: beside this journal nothing is sent.
abbrev pub TakesAskedWatched : {R : Type 0} → (R → RigState) → List ChipData → Option Board → Work
    → Sequel → R → R → Result Steps Failure → Type 0
TakesAskedWatched view table None work sequel old new result =
    TakesKnown view table None work sequel old new result
TakesAskedWatched view table (Some board) work sequel old new result =
    TakesToldWatched view table board work sequel old new result

-- From the question which board it is.
pub record TakesFromBoard {R : Type 0} (view : R → RigState) (table : List ChipData)
    (question : Question) (work : Work) (sequel : Sequel) (old new : R)
    (result : Result Steps Failure) : Type 0 where
  pub mid : R
  pub came : Result (Option Board) Failure
  pub asking : Asking
  pub asks : AsksToWatch view table asking question.wanted old mid came
  pub goes_on : MatchResult came
      (λ board. TakesAskedWatched view table board work sequel mid new result)
      (λ failure. (new ≡ mid) × (result ≡ Err failure))
  pub is_asking : asking ≡ asking_of work

-- One that was asked who it is, or wasn't.
abbrev pub TakesKnownWatched : {R : Type 0} → (R → RigState) → List ChipData → Option Board → Work
    → Sequel → R → R → Result Steps Failure → Type 0
TakesKnownWatched view table None work sequel old new result =
    TakesKnown view table None work sequel old new result
TakesKnownWatched view table (Some board) work sequel old new result =
    TakesSettled view table board.id None work sequel old new result

-- From Get and Get ID on.
pub record TakesFromId {R : Type 0} (view : R → RigState) (table bare : List ChipData)
    (work : Work) (sequel : Sequel) (old new : R)
    (result : Result Steps Failure) : Type 0 where
  pub mid : R
  pub came : Result (Option Board) Failure
  pub asking : Asking
  pub asks : AsksWho view bare asking old mid came
  pub goes_on : MatchResult came
      (λ board. TakesKnownWatched view table board work sequel mid new result)
      (λ failure. (new ≡ mid) × (result ≡ Err failure))
  pub is_asking : asking ≡ asking_of work

-- The session that a plan says, and what follows it, watched so.
abbrev pub TakesWatched : {R : Type 0} → (R → RigState) → Watching → Plan → R → R
    → Result Steps Failure → Type 0
TakesWatched view Unwatched plan old new result =
    TakesSteps view plan.table plan.question plan.job.work plan.job.sequel old new result
TakesWatched view FromBoard plan old new result =
    TakesFromBoard view plan.table plan.question plan.job.work plan.job.sequel old new result
TakesWatched view (FromId bare) plan old new result =
    TakesFromId view plan.table bare plan.job.work plan.job.sequel old new result
