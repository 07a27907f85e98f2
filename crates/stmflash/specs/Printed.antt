-- What is printed of the steps of one call, and the exit status beside it.
use Rattle.std.specs.Prelude.{◌≡◌, ◌⊎◌, ◌&&◌, ◌||◌, ℕ, Bool, true, false, not, List, Option, None}
use Rattle.std.specs.Prelude.{MatchOption, codes, option_map, string_bytes}
use Rattle.std.specs.Borrow.{Bor}
use Rattle.std.specs.Io.KnownBytes.{Appends}
use Rattle.stm_wire.specs.Rig.{RigState}
use Rattle.stm_journal.specs.States.{StateData}
use Rattle.stm_words.specs.Json.{wants_json}
use Rattle.stm_words.specs.Request.{AskForHelp, IsAskedFor}
use Rattle.stm_words.specs.declared.environment.Environment.{Environment}
use Rattle.stm_words.specs.declared.request.Request.{Request}
use Rattle.stm_words.specs.declared.request.Request.TheVariants.{Keep, Log, Use}
use Rattle.stm_work.specs.declared.failure.Failure.{Failure}
use Rattle.stm_work.specs.declared.hint.Hint.{Hint}
use Rattle.stm_work.specs.declared.steps.Steps.{Steps}
use Rattle.stm_work.specs.Answer.{is_flash}
use Rattle.stm_work.specs.ExitStatus.{status_of}
use Rattle.stm_work.specs.ShortLine.{short_line}
use Rattle.stm_work.specs.StepsText.{steps_text}
use Rattle.stmflash.specs.Confirmation.{IsConfirmed, wants_yes}
use Rattle.stmflash.specs.JournalTasks.{TellsKept, TellsLog}
use Rattle.stmflash.specs.Standing.{StandsFor}
use Rattle.stmflash.specs.Tables.{AreStanding, IsUsersName}
use Rattle.stmflash.specs.TaskUse.{UsesTask}
use Rattle.stmflash.specs.declared.variables.Variables.{Variables}
use Rattle.stm_work.specs.ToldJson.{AreLines, answer_name}

-- the text of steps, or their lines of JSON; where there was no memory for these, the one that names
-- what was done, and says no more
abbrev pub IsTextOf : Bool → Option Hint → Steps → List ℕ → Type 0
IsTextOf false hint steps text = text ≡ steps_text steps
IsTextOf true hint steps text =
    AreLines hint steps text ⊎ (text ≡ short_line (codes "answer") (answer_name steps.answer))

-- What was printed of steps: JSON where that is asked for, but of what was read of the flash.
pub record ArePrinted (is_json : Bool) (hint : Option Hint) (steps : Steps)
    (old new : Option (List ℕ)) : Type 0 where
  pub text : List ℕ
  pub appended : Appends old new text
  pub is : IsTextOf (is_json && not (is_flash steps.answer)) hint steps text

-- The status of steps: that of the failure, where a step failed; else 0 where they were printed
-- whole, and 1 where they couldn't be.
abbrev pub IsStatusOf : Bool → Option Hint → Steps → Option (List ℕ) → Option (List ℕ) → ℕ → Type 0
IsStatusOf is_json hint steps old new status =
    MatchOption steps.failure ((status ≡ 1) ⊎ ArePrinted is_json hint steps old new × (status ≡ 0))
    (λ failure. status ≡ status_of failure)

-- the steps of a request: of a use of a device, those of a session by the words; of a journal
-- alone, what is told of a state that was loaded. Of `log --check` and of a simulator that is
-- served it isn't said what was done.
abbrev pub AreStepsOf : {A B : Type 0} → (A → RigState) → (B → RigState) → Request → Steps → Type 0
AreStepsOf simulated connected (Use options task sequel) steps =
    UsesTask simulated connected options task sequel steps
AreStepsOf simulated connected (Log journal false) steps =
    (state : StateData) × TellsLog state steps.answer
AreStepsOf simulated connected (Keep kept) steps =
    (state : StateData) × TellsKept kept.last state steps.answer
AreStepsOf simulated connected other steps = Unit {0}

-- A request came to steps, which have this status.
pub record CameToSteps {A B : Type 0} (simulated : A → RigState) (connected : B → RigState)
    (request : Request) (is_json : Bool) (old new : Option (List ℕ)) (status : ℕ) : Type 0 where
  pub steps : Steps
  pub of : AreStepsOf simulated connected request steps
  pub hint : Option Hint
  pub told : IsStatusOf is_json hint steps old new status

-- it failed, and this is the status of the failure
abbrev pub IsFailed : ℕ → Type 0
IsFailed status = (failure : Failure) × (status ≡ status_of failure)

-- A request was done: no step of it failed, and its steps were printed whole.
pub record IsDone {A B : Type 0} (simulated : A → RigState) (connected : B → RigState)
    (request : Request) (is_json : Bool) (old new : Option (List ℕ)) : Type 0 where
  pub steps : Steps
  pub of : AreStepsOf simulated connected request steps
  pub whole : steps.failure ≡ None
  pub hint : Option Hint
  pub printed : ArePrinted is_json hint steps old new

-- The request that the words ask for was done. It is told as JSON just where the environment says so,
-- or the words. Where a yes was due, just one was taken from what is typed; else nothing was.
pub record IsServed {A B : Type 0} (simulated : A → RigState) (connected : B → RigState)
    (e : Environment) (words : List (List ℕ)) (is_there : Bool)
    (typed left old new : Option (List ℕ)) : Type 0 where
  pub request : Request
  pub asked : IsAskedFor e words request
  pub confirmed : IsConfirmed (wants_yes request is_there) typed left
  pub is_json : Bool
  pub json : is_json ≡ e.is_json || wants_json words
  pub done : IsDone simulated connected request is_json old new

-- What status 0 says: the request was done, or help or the version was asked for, and a text printed.
abbrev pub IsWell : {A B : Type 0} → (A → RigState) → (B → RigState) → Environment
    → List (List ℕ) → Bool → (typed left old new : Option (List ℕ)) → Type 0
IsWell simulated connected e words is_there typed left old new =
    IsServed simulated connected e words is_there typed left old new
    ⊎ AskForHelp e words × ((text : List ℕ) × Appends old new text)

-- The same of words beside variables of the environment: what stands in the place of words is what
-- these say, and which tables are there.
pub record IsWellBy {A B : Type 0} (simulated : A → RigState) (connected : B → RigState)
    (variables : Variables) (words : List (List ℕ)) (is_there : Bool)
    (typed left old new : Option (List ℕ)) : Type 0 where
  pub users : Option (List ℕ)
  pub named : IsUsersName variables.config_home variables.home users
  pub tables : List (Bor (List ℕ))
  pub are : AreStanding users tables
  pub standing : Environment
  pub stands : StandsFor variables tables standing
  pub well : IsWell simulated connected standing words is_there typed left old new
