-- From the task that the words name to the steps that are told of it: which work runs on the device,
-- by which options, and what the tables add to its answer.
use Rattle.std.specs.Prelude.{◌≡◌, ◌⊎◌, ◌++◌, ◌==◌, ◌&&◌, ℕ, Bool, true, false, not}
use Rattle.std.specs.Prelude.{IsSomeAnd, List, Some, codes, bytes_eq, is_some}
use Rattle.std.specs.Borrow.{Bor}
use Rattle.hex.specs.Hex.{encode_upper}
use Rattle.stm_wire.specs.Rig.{RigState}
use Rattle.stm_words.specs.declared.options.Options.{Options}
use Rattle.stm_words.specs.declared.sequel.Sequel.{Sequel}
use Rattle.stm_words.specs.declared.task.Task.{Task}
use Rattle.stm_words.specs.declared.task.Task.TheVariants as task
use Rattle.stm_work.specs.declared.steps.Steps.{Steps}
use Rattle.stm_work.specs.declared.work.Work.{Work}
use Rattle.stm_work.specs.Answer.{IsBeside}
use Rattle.stm_work.specs.Action.{work_unless_fresh}
use Rattle.stm_work.specs.TaskWork.{IsWorkFor}
use Rattle.stmflash.specs.WriteUse.{UsesLast}
use Rattle.stmflash.specs.declared.on_device.Prepared.{Prepared}

-- Steps beside what the tables say, that name the journal that was used; all else is as it was.
pub record AreBeside (texts : List (List ℕ)) (name : List ℕ) (used told : Steps) : Type 0 where
  pub by : IsSomeAnd told.used (λ it. it.journal.now ≡ name)
  pub board : told.board ≡ used.board
  pub answer : IsBeside texts used.answer told.answer
  pub kept : told.kept ≡ used.kept
  pub failure : told.failure ≡ used.failure

-- the name of a file, and not the one of standard output
abbrev pub is_file : List ℕ → Bool
is_file name = not (bytes_eq name (codes "-"))

-- a task that reads the flash, whose bytes are for a file
abbrev pub is_filed : Task → Bool
is_filed (task.Read range out) = is_file out.now
is_filed (task.ReadHex range out skips) = is_file out.now
is_filed other = false

-- What a use of a task is made of: its work, and a file for the flash's bytes where it names one.
pub record IsPrepared (asked : Task) (prepared : Prepared) : Type 0 where
  pub is_work : IsWorkFor asked prepared.work
  pub filed : is_some prepared.files.out ≡ is_filed asked

-- A work was done, where its line failed again and again, and its steps are told beside what the
-- tables say. Bytes that are for a file are in it, unless it is a write that may be done again.
pub record UsesBeside {A B : Type 0} (simulated : A → RigState) (connected : B → RigState)
    (options : Options) (texts : List (List ℕ)) (does : Work) (sequel : Sequel) (is_out : Bool)
    (steps : Steps) : Type 0 where
  pub used : Steps
  pub uses : UsesLast simulated connected options texts does sequel
      (is_out && (sequel.again == 0)) used
  pub beside : AreBeside texts options.journal.now used steps

-- the name of a board's journal in a folder
abbrev pub journal_name : List ℕ → List ℕ → List ℕ
journal_name folder board = folder ++ codes "/" ++ encode_upper board ++ codes ".journal"

-- the options of a session whose board the words name: its journal is a file of the folder
pub record AreTaken (words found : Options) : Type 0 where
  pub board : List ℕ
  pub journal : Bor (List ℕ)
  pub named : journal.now ≡ journal_name words.journal.now board
  pub options : found ≡ record words { journal = journal; in_folder = false }

-- and of one whose board told itself: it has to be that one from then on, and isn't fresh from reset
-- any more
pub record AreAsked (words found : Options) : Type 0 where
  pub board : List ℕ
  pub journal : Bor (List ℕ)
  pub named : journal.now ≡ journal_name words.journal.now board
  pub digits : Bor (List ℕ)
  pub wanted : digits.now ≡ encode_upper board
  pub options : found ≡ record words {
    journal = journal;
    in_folder = false;
    board = Some digits;
    is_fresh = false;
  }

-- the options beside a journal in a folder, once it is found: all else is as the words have it
abbrev pub AreFound : Options → Options → Type 0
AreFound words found = AreTaken words found ⊎ AreAsked words found

-- the options of a session: those of the words, but where a folder has its journal
abbrev pub AreOptionsOf : Bool → Options → Options → Type 0
AreOptionsOf false words options = options ≡ words
AreOptionsOf true words options = AreFound words options

-- A task was done on a device, and what follows it: its work, by these options. Only where the words say
-- so the device counts as fresh from reset.
pub record UsesTask {A B : Type 0} (simulated : A → RigState) (connected : B → RigState)
    (words : Options) (asked : Task) (sequel : Sequel) (steps : Steps) : Type 0 where
  pub texts : List (List ℕ)
  pub does : Work
  pub is_work : IsWorkFor asked does
  pub options : Options
  pub are : AreOptionsOf words.in_folder words options
  pub uses : UsesBeside simulated connected options texts
      (work_unless_fresh options.is_fresh does) sequel (is_filed asked) steps
  pub said : options.is_fresh ≡ true → words.is_fresh ≡ true
