-- What one use of a device comes to: the session by its plan, behind a greeting where one comes, on
-- a Rig that is shown and watched, and what is told of it at the end.
use Rattle.std.specs.Prelude.{◌≡◌, ◌⊎◌, ◌&&◌, ℕ, Bool, true, false, List, [], Option, None, Some}
use Rattle.std.specs.Prelude.{Result, Ok, Err, IfErr, IfOk, OnOk, MatchResult}
use Rattle.stm_wire.specs.Chip.{ChipData}
use Rattle.stm_wire.specs.Command.{with_rest}
use Rattle.stm_wire.specs.Dialogue.{GoesOn}
use Rattle.stm_wire.specs.Rig.{RigState}
use Rattle.stm_journal.specs.Calls.{AreFetches}
use Rattle.stm_session.specs.declared.fault.Fault.{Fault}
use Rattle.stm_session.specs.declared.fault.Fault.TheVariants.{Line}
use Rattle.stm_session.specs.declared.greeting.Greeting.{Greeting}
use Rattle.stm_session.specs.declared.greeting.Greeting.TheVariants as greeting
use Rattle.stm_session.specs.Fault.{HasSessionCause, IsRefusal}
use Rattle.stm_session.specs.Greeting.{GreetsBy, GreetsInPartBy, GreetsSafely, IsConnectable}
use Rattle.stm_session.specs.Greeting.{IsGreetableAs, ReadsFirst, greets}
use Rattle.stm_session.specs.Undoable.{Undoable}
use Rattle.stm_words.specs.declared.device.Device.{Device}
use Rattle.stm_words.specs.declared.device.Device.TheVariants.{Simulator, Socket}
use Rattle.stm_words.specs.declared.options.Options.{Options}
use Rattle.stm_words.specs.declared.sequel.Sequel.{Sequel}
use Rattle.stm_watch.specs.Known.{Known}
use Rattle.stm_work.specs.declared.action.Action.TheVariants as action
use Rattle.stm_work.specs.declared.answer.Answer.TheVariants as answer
use Rattle.stm_work.specs.declared.failure.Failure.{Failure}
use Rattle.stm_work.specs.declared.failure.Failure.TheVariants.{Session}
use Rattle.stm_work.specs.declared.plan.Plan.{Plan}
use Rattle.stm_work.specs.declared.steps.Steps.{Steps}
use Rattle.stm_work.specs.declared.work.Work.{Work}
use Rattle.stm_work.specs.declared.work.Work.TheVariants as work
use Rattle.stm_work.specs.Answer.{filed, is_flash}
use Rattle.stm_work.specs.Plan.{IsUsePlan, TellsSteps}
use Rattle.stm_work.specs.Unprotecting.{TellsSilence}
use Rattle.stm_work.specs.Steps.{Stays}
use Rattle.stm_work.specs.Watching.{IsWatchingBegun, TakesWatched}
use Rattle.stmflash.specs.declared.output.Output.{Output}
use Rattle.stmflash.specs.declared.output.Output.TheVariants.{Printed}

-- where an undo is greeted: at a socket, by whether its device is said to be fresh from reset, and
-- whether the line's speed is said
abbrev pub greeting_at : Device → Bool → Option ℕ → Option Greeting
greeting_at (Simulator id file) is_fresh baud = None
greeting_at (Socket path) true baud = Some greeting.Fresh
greeting_at (Socket path) false None = Some greeting.Brief
greeting_at (Socket path) false (Some baud) = Some greeting.Plain

-- of what is done on a device an undo is greeted, and what takes the write protection off ahead of one;
-- the one that follows a write which failed is of a device that isn't fresh any more
abbrev pub greeting_for : Work → Options → Option Greeting
greeting_for (work.Undo extent verifies) options =
    greeting_at options.device options.is_fresh options.baud
greeting_for (work.Act (action.Undo count)) options = greeting_at options.device false options.baud
greeting_for (work.Act (action.UndoVerified count)) options =
    greeting_at options.device false options.baud
greeting_for (work.Act action.UnprotectBegun) options = greeting_at options.device false options.baud
greeting_for does options = None

-- A greeting came ahead of a session. Where the journal has an intent, and doesn't say yet that 7F may
-- have been sent, a line says so and 7F is sent once; else the journal is read alone. What could be
-- undone still can at each moment, and a device that is fresh from reset is connected by it.
pub record GreetsAhead (table : List ChipData) (way : Greeting) (old new : RigState)
    (came : Result Bool Fault) : Type 0 where
  pub cause : HasSessionCause old new came
  pub silent : came ≡ Ok false → GoesOn AreFetches old.calls new.calls
  pub order : came ≡ Ok true → GoesOn (ReadsFirst (GreetsBy way)) old.calls new.calls
  pub stops : IfErr came (λ fault. GoesOn (ReadsFirst (GreetsInPartBy way)) old.calls new.calls)
  pub unsent : IfErr came (λ fault. IsRefusal fault → GoesOn AreFetches old.calls new.calls)
  pub answer : IfOk came (λ greeted. old.is_honest → greeted ≡ greets way table old.journal)
  pub honest : old.is_honest → (flashes : List (List ℕ)) → Undoable flashes old.device old.journal
      → IsGreetableAs way old.device old.journal → GreetsSafely table flashes old new came
  pub connected : old.is_honest → IsConnectable way old.device → came ≡ Ok true
      → new.device ≡ with_rest [] old.device

-- A session behind a greeting. Where its line failed, the journal may say that nothing answered.
pub record TakesUnlessSilent {R : Type 0} (view : R → RigState) (plan : Plan) (old new : R)
    (done : Result Steps Failure) : Type 0 where
  pub at : R
  pub said : Result Steps Failure
  pub takes : TakesWatched view plan.watching plan old at said
  pub ends : ((new ≡ at) × (done ≡ said))
      ⊎ ((said ≡ Err (Session Line)) × ((came : Result (Unit {0}) Fault)
      × TellsSilence (view at) (view new) came
      × MatchResult came (λ told. done ≡ said) (λ fault. done ≡ Err (Session fault))))

abbrev pub TakesBehind : {R : Type 0} → Bool → (R → RigState) → Plan → R → R → Result Steps Failure
    → Type 0
TakesBehind true view plan old new done = TakesUnlessSilent view plan old new done
TakesBehind false view plan old new done = TakesWatched view plan.watching plan old new done

-- A greeting, and then the session that a plan says. Where the greeting failed, that is all that came.
pub record TakesGreeted {R : Type 0} (way : Greeting) (view : R → RigState) (plan : Plan) (old new : R)
    (done : Result Steps Failure) : Type 0 where
  pub mid : R
  pub came : Result Bool Fault
  pub greets : GreetsAhead plan.table way (view old) (view mid) came
  pub goes_on : MatchResult came (λ greeted. TakesBehind greeted view plan mid new done)
      (λ fault. (new ≡ mid) × (done ≡ Err (Session fault)))

-- the session that a plan says, behind a greeting where one comes
abbrev pub TakesAhead : {R : Type 0} → Option Greeting → (R → RigState) → Plan → R → R
    → Result Steps Failure → Type 0
TakesAhead None view plan old new done = TakesWatched view plan.watching plan old new done
TakesAhead (Some way) view plan old new done = TakesGreeted way view plan old new done

-- It is taken on a Rig around another one, at which watching begins by what is known. The inner one is handed
-- back, and tells of itself what it told behind the session; and what came of that is told.
pub record TakesAround {R L : Type 0} (view : R → RigState) (inner : R → L)
    (inner_view : L → RigState) (known : Known) (way : Option Greeting) (plan : Plan)
    (before after : L) (told : Result Steps Failure) : Type 0 where
  pub old : R
  pub new : R
  pub done : Result Steps Failure
  pub takes : TakesAhead way view plan old new done
  pub within : inner old ≡ before
  pub begins : IsWatchingBegun known (inner_view before) (view old)
  pub left : Stays (inner_view (inner new)) (inner_view after)
  pub tells : TellsSteps done told

-- Steps whose bytes are in a file: of them it is told of which board they were, how many, their CRC, and
-- how they failed.
pub record AreFiled (taken told : Steps) : Type 0 where
  pub board : told.board ≡ taken.board
  pub answer : told.answer ≡ filed taken.answer
  pub kept : told.kept ≡ None
  pub failure : told.failure ≡ taken.failure

abbrev pub AreFiledIf : Bool → Steps → Steps → Type 0
AreFiledIf true taken told = AreFiled taken told
AreFiledIf false taken told = told ≡ taken

-- what was read of the flash goes into a file, where there is one; all else is handed on as it is
abbrev pub AreOut : Bool → Steps → Steps → Type 0
AreOut is_out taken told = AreFiledIf (is_out && is_flash taken.answer) taken told

-- the steps of a session that answered some
abbrev pub AreOutOf : Bool → Result Steps Failure → Steps → Type 0
AreOutOf is_out done told = MatchResult done (λ taken. AreOut is_out taken told) (λ failure. ⊥)

-- what is told at the end of what came of a session: where none of these steps failed, they are those
-- that it took
abbrev pub AreLeft : Bool → Result Steps Failure → Steps → Type 0
AreLeft is_out done steps = (told : Steps) × TellsSteps done (Ok told) × AreOut is_out told steps

-- A session by this plan, on a Rig with this view, came to what these steps tell.
pub record UsesPlan {R : Type 0} (view : R → RigState) (options : Options) (is_out : Bool)
    (plan : Plan) (steps : Steps) : Type 0 where
  pub old : R
  pub new : R
  pub done : Result Steps Failure
  pub takes : TakesAhead (greeting_for plan.job.work options) view plan old new done
  pub left : AreLeft is_out done steps

-- the same on the device that the words name: a simulator in the process, or one behind a socket
abbrev pub UsesOn : {A B : Type 0} → (A → RigState) → (B → RigState) → Device → Options → Bool
    → Plan → Steps → Type 0
UsesOn simulated connected (Simulator id file) options is_out plan steps =
    UsesPlan simulated options is_out plan steps
UsesOn simulated connected (Socket path) options is_out plan steps =
    UsesPlan connected options is_out plan steps

-- Where what is read goes into a file or a pipe.
abbrev pub goes_out : {R F A : Type 0} → Output R F A → Bool
goes_out Printed = false
goes_out other = true

-- One use: its plan is the plan of the words, and the steps that are told are those of a session by it.
pub record UsesOnce {A B : Type 0} (simulated : A → RigState) (connected : B → RigState)
    (options : Options) (texts : List (List ℕ)) (does : Work) (sequel : Sequel) (is_out : Bool)
    (steps : Steps) : Type 0 where
  pub is_told : Bool
  pub plan : Plan
  pub is_plan : IsUsePlan options texts is_told does sequel plan
  pub uses : UsesOn simulated connected options.device options is_out plan steps
