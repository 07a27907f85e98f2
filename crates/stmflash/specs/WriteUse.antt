-- A write that is done again where its line failed, on the device that the words name: each act of
-- it is a use by these words.
use Rattle.std.specs.Prelude.{◌≡◌, ◌⊎◌, ℕ, Bool, false, List, [], ◌∷◌, Some, Result, IfOk}
use Rattle.stm_wire.specs.Rig.{RigState}
use Rattle.stm_words.specs.declared.options.Options.{Options}
use Rattle.stm_words.specs.declared.sequel.Sequel.{Sequel}
use Rattle.stm_words.specs.Request.{IsAlone}
use Rattle.stm_work.specs.declared.action.Action.TheVariants as action
use Rattle.stm_work.specs.declared.answer.Answer.{Answer}
use Rattle.stm_work.specs.declared.answer.Answer.TheVariants as answer
use Rattle.stm_work.specs.declared.failure.Failure.{Failure}
use Rattle.stm_work.specs.declared.steps.Steps.{Steps}
use Rattle.stm_work.specs.declared.work.Work.{Work}
use Rattle.stm_work.specs.declared.work.Work.TheVariants as work
use Rattle.stm_work.specs.Action.{IsDoneAgain}
use Rattle.stm_work.specs.Again.{Act, AreActsDone}
use Rattle.stm_work.specs.Again.Act.{Attempted, Undone}
use Rattle.stmflash.specs.DeviceUse.{UsesOnce}

-- what each use of one call is made of: its options, the texts of its tables, and what follows it
pub record Words : Type 0 where
  pub options : Options
  pub texts : List (List ℕ)
  pub sequel : Sequel

abbrev pub words_by : Options → List (List ℕ) → Sequel → Words
words_by options texts sequel = record { options = options; texts = texts; sequel = sequel }

-- how many segments were undone, as an undo tells it
abbrev pub count_undone : Answer → ℕ
count_undone (answer.Undone count bytes) = count
count_undone other = 0

-- So many of the newest segments were undone by one use, which nothing follows.
pub record UsesUndo {A B : Type 0} (simulated : A → RigState) (connected : B → RigState)
    (words : Words) (count : ℕ) (taken : ℕ) : Type 0 where
  pub alone : Sequel
  pub is_alone : IsAlone alone
  pub steps : Steps
  pub uses : UsesOnce simulated connected words.options words.texts
      (work.Act (action.Undo count)) alone false steps
  pub told : taken ≡ count_undone steps.answer

-- where an act is a use that answered, it is one by these words; no bytes of it go into a file
abbrev pub IsUse : {A B : Type 0} → (A → RigState) → (B → RigState) → Words → Act → Type 0
IsUse simulated connected words (Attempted does came) = IfOk came
    (UsesOnce simulated connected words.options words.texts does words.sequel false)
IsUse simulated connected words (Undone count taken) =
    IfOk taken (UsesUndo simulated connected words count)
IsUse simulated connected words other = Unit {0}

-- each of these acts is one
abbrev pub AreUses : {A B : Type 0} → (A → RigState) → (B → RigState) → Words → List Act → Type 0
AreUses simulated connected words [] = Unit {0}
AreUses simulated connected words (act ∷ acts) =
    IsUse simulated connected words act × AreUses simulated connected words acts

-- A write was done, and again where its line failed, so many times at the most.
pub record UsesAgain {A B : Type 0} (simulated : A → RigState) (connected : B → RigState)
    (words : Words) (does : Work) (came : Result Steps Failure) : Type 0 where
  pub acts : List Act
  pub uses : AreUses simulated connected words acts
  pub done : AreActsDone does words.sequel.again acts came

-- These are the steps of one use: of the work, or, where it is a write, of one of the same image.
pub record UsesLast {A B : Type 0} (simulated : A → RigState) (connected : B → RigState)
    (options : Options) (texts : List (List ℕ)) (does : Work) (sequel : Sequel) (is_out : Bool)
    (steps : Steps) : Type 0 where
  pub last : Work
  pub same : (last ≡ does) ⊎ IsDoneAgain does (Some last)
  pub uses : UsesOnce simulated connected options texts last sequel is_out steps
