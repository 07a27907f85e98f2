-- What the variables of the environment say.
use Rattle.std.specs.Prelude.{◌≡◌, ◌⊎◌, true, List, [], ◌∷◌, codes}
use Rattle.std.specs.Prelude.{Result, Ok, Err}
use Rattle.stm_work.specs.declared.failure.Failure.{Failure}
use Rattle.stmflash.specs.declared.variable.Variable.{Variable}
use Rattle.stmflash.specs.declared.variables.Variables.{Variables}
use Rattle.stmflash.specs.Variable.{IsVariableUnread, is_variable_read}

-- Each was asked for by its own name.
pub record AreNamed (variables : Variables) : Type 0 where
  pub config_home : variables.config_home.name.now ≡ codes "XDG_CONFIG_HOME"
  pub home : variables.home.name.now ≡ codes "HOME"
  pub table : variables.table.name.now ≡ codes "STMFLASH_TABLE"
  pub device : variables.device.name.now ≡ codes "STMFLASH_DEVICE"
  pub journal : variables.journal.name.now ≡ codes "STMFLASH_JOURNAL"
  pub journals : variables.journals.name.now ≡ codes "STMFLASH_JOURNALS"
  pub board : variables.board.name.now ≡ codes "STMFLASH_BOARD"
  pub wait : variables.wait.name.now ≡ codes "STMFLASH_WAIT"
  pub baud : variables.baud.name.now ≡ codes "STMFLASH_BAUD"
  pub without_board : variables.without_board.name.now ≡ codes "STMFLASH_NO_BOARD"
  pub is_fresh : variables.is_fresh.name.now ≡ codes "STMFLASH_FRESH"
  pub without_lock : variables.without_lock.name.now ≡ codes "STMFLASH_NO_LOCK"
  pub is_json : variables.is_json.name.now ≡ codes "STMFLASH_JSON"

-- those that have to be texts where they are set, in their order: what names files and boards, and others
abbrev pub names_of : Variables → List Variable
names_of v = v.table ∷ v.device ∷ v.journal ∷ v.journals ∷ v.board ∷ []

abbrev pub others_of : Variables → List Variable
others_of v = v.wait ∷ v.baud ∷ v.without_board ∷ v.is_fresh ∷ v.without_lock ∷ v.is_json ∷ []

-- each can be read
abbrev pub EachIsRead : List Variable → Type 0
EachIsRead [] = Unit {0}
EachIsRead (variable ∷ others) = (is_variable_read variable ≡ true) × EachIsRead others

-- it is why the first that can't be read can't be
abbrev pub IsOfFirst : List Variable → Failure → Type 0
IsOfFirst [] failure = ⊥
IsOfFirst (variable ∷ others) failure =
    IsVariableUnread variable failure ⊎ ((is_variable_read variable ≡ true) × IsOfFirst others failure)

-- each of these can be read, or this is why the first can't be
abbrev pub ComesOfEach : List Variable → Result (Unit {0}) Failure → Type 0
ComesOfEach variables (Ok _) = EachIsRead variables
ComesOfEach variables (Err failure) = IsOfFirst variables failure

-- the same of all
abbrev pub AreChecked : Variables → Result (Unit {0}) Failure → Type 0
AreChecked v (Ok _) = EachIsRead (names_of v) × EachIsRead (others_of v)
AreChecked v (Err failure) = IsOfFirst (names_of v) failure
    ⊎ (EachIsRead (names_of v) × IsOfFirst (others_of v) failure)

-- The system was asked for each by its name, and each can be read, or this is why one can't be.
abbrev pub SystemIsAsked : Result Variables Failure → Type 0
SystemIsAsked (Ok variables) = AreNamed variables × AreChecked variables (Ok tt)
SystemIsAsked (Err failure) =
    (variables : Variables) × AreNamed variables × AreChecked variables (Err failure)
