-- From a work that was done to the steps that are told of it, and to the task that asked for it.
use Rattle.std.proofs.Common.{◌≡◌, ◌==◌, ◌&&◌, Bool, true, false, List, ℕ, Result, Ok, Err, IfOk}
use Rattle.std.proofs.Common.{IsErrAnd, refl, subst, sym, ⊎_elim}
use Rattle.stm_wire.proofs.Names.{RigState}
use Rattle.stm_words.specs.declared.options.Options.{Options}
use Rattle.stm_words.specs.declared.sequel.Sequel.{Sequel}
use Rattle.stm_words.specs.declared.task.Task.{Task}
use Rattle.stm_work.specs.declared.failure.Failure.{Failure}
use Rattle.stm_work.specs.declared.steps.Steps.{Steps}
use Rattle.stm_work.specs.declared.work.Work.{Work}
use Rattle.stm_work.specs.Action.{work_unless_fresh}
use Rattle.stmflash.specs.TaskUse.{AreAsked, AreBeside, AreFound, AreOptionsOf, AreTaken}
use Rattle.stmflash.specs.TaskUse.{UsesBeside, UsesTask, is_filed}
use Rattle.stm_work.specs.TaskWork.{IsWorkFor}
use Rattle.stmflash.specs.WriteUse.{UsesLast}

-- a device counts as fresh only by the words
says-fresh : (in_folder : Bool) (words options : Options) → AreOptionsOf in_folder words options
    → options.is_fresh ≡ true → words.is_fresh ≡ true
says-fresh false words options same is = let F : Options → Type 0 = λ o. o.is_fresh ≡ true in
    subst F same is
says-fresh true words options found is = ⊎_elim taken asked found
  where
    F : Options → Type 0
    F o = o.is_fresh ≡ true

    taken : AreTaken words options → words.is_fresh ≡ true
    taken are = subst F are.options is

    asked : AreAsked words options → words.is_fresh ≡ true
    asked are = absurd (no (subst F are.options is))
      where
        no : false ≡ true → ⊥
        no same = cc

-- nothing is owed where a fault is answered
pub at-fault : (P : Steps → Type 0) (Q : Failure → Type 0) (came : Result Steps Failure)
    → IsErrAnd came Q → IfOk came P
at-fault P Q (Err failure) is = tt
at-fault P Q (Ok steps) is = absurd is

-- the options of the words themselves, and those beside a journal that was found in a folder
pub own-options : (words : Options) → words.in_folder ≡ false
    → AreOptionsOf words.in_folder words words
own-options words none = let P : Bool → Type 0 = λ b. AreOptionsOf b words words in
    subst P (sym none) refl

pub found-options : (words options : Options) → words.in_folder ≡ true → AreFound words options
    → AreOptionsOf words.in_folder words options
found-options words options is found = let P : Bool → Type 0 = λ b. AreOptionsOf b words options in
    subst P (sym is) found

module _ {A B : Type 0} (simulated : A → RigState) (connected : B → RigState) where
  -- a task, by its work and the options that were found
  pub uses-task : (words options : Options) (texts : List (List ℕ)) (asked : Task) (does : Work)
      (sequel : Sequel) (is_out : Bool) (came : Result Steps Failure) → IsWorkFor asked does
      → AreOptionsOf words.in_folder words options
      → is_out ≡ is_filed asked
      → IfOk came (UsesBeside simulated connected options texts
      (work_unless_fresh options.is_fresh does) sequel is_out)
      → IfOk came (UsesTask simulated connected words asked sequel)
  uses-task words options texts asked does sequel is_out (Err failure) is are filed uses = tt
  uses-task words options texts asked does sequel is_out (Ok steps) is are filed uses =
      let P : Bool → Type 0 = λ b. UsesBeside simulated connected options texts
      (work_unless_fresh options.is_fresh does) sequel b steps in
      record {
        texts = texts;
        does = does;
        is_work = is;
        options = options;
        are = are;
        uses = subst P filed uses;
        said = says-fresh words.in_folder words options are;
      }

  -- steps that are told beside what the tables say
  pub uses-beside : (options : Options) (texts : List (List ℕ)) (does : Work) (sequel : Sequel)
      (is_out named : Bool) (used : Steps) (came : Result Steps Failure) → is_out ≡ named
      → UsesLast simulated connected options texts does sequel (is_out && (sequel.again == 0)) used
      → IfOk came (AreBeside texts options.journal.now used)
      → IfOk came (UsesBeside simulated connected options texts does sequel named)
  uses-beside options texts does sequel is_out named used (Err failure) same uses beside = tt
  uses-beside options texts does sequel is_out named used (Ok steps) same uses beside =
      let P : Bool → Type 0 = λ b. UsesLast simulated connected options texts does sequel
      (b && (sequel.again == 0)) used in
      record { used = used; uses = subst P same uses; beside = beside }
