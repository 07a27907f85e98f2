-- What is asked about before it is done, and which answer goes on.
use Rattle.std.specs.Prelude.{◌≡◌, ℕ, min, List, [], ◌∷◌, ◌++◌, length, take}
use Rattle.std.specs.Prelude.{Bool, codes, true, false, bytes_eq, not, ◌&&◌, ◌||◌, Option}
use Rattle.std.specs.Io.KnownBytes.{Consumes}
use Rattle.stm_words.specs.Request.{IsAskedFor}
use Rattle.stm_words.specs.declared.environment.Environment.{Environment}
use Rattle.stm_words.specs.declared.request.Request.{Request}
use Rattle.stm_words.specs.declared.request.Request.TheVariants.{Use}
use Rattle.stm_words.specs.declared.task.Task.{Task}
use Rattle.stm_words.specs.declared.task.Task.TheVariants as task

-- the readout protection is taken off, and nobody said before that this is meant
abbrev pub erases_for_good : Task → Bool
erases_for_good (task.Protect kind is_sure in_session) =
    bytes_eq kind.now (codes "readout-unprotect") && not is_sure
erases_for_good _ = false

-- `y` or `yes`, and nothing else
abbrev pub is_yes : List ℕ → Bool
is_yes answer = bytes_eq answer (codes "y") || bytes_eq answer (codes "yes")

-- these bytes of a line were taken from what is typed, and those that fit stand in the buffer
pub record HasTyped (old new : Option (List ℕ)) (line : List ℕ) (buf : List ℕ) (count : ℕ)
    : Type 0 where
  pub taken : Consumes old new line
  pub count_is : count ≡ min (length line) (length buf)
  pub bytes : take count buf ≡ take count line

-- a line was taken from what is typed, with the LF that ends it
pub record TakesLine (old new : Option (List ℕ)) (buf : List ℕ) (count : ℕ) : Type 0 where
  pub line : List ℕ
  pub taken : Consumes old new (line ++ 0x0A ∷ [])
  pub count_is : count ≡ min (length line) (length buf)
  pub bytes : take count buf ≡ take count line

-- `y` or `yes` was taken from what is typed, and the LF that ends it
pub record SaysYes (old new : Option (List ℕ)) : Type 0 where
  pub line : List ℕ
  pub yes : is_yes line ≡ true
  pub taken : Consumes old new (line ++ 0x0A ∷ [])

-- what is written where it is asked
abbrev pub question : List ℕ
question =
    codes "this erases the whole flash, and no journal keeps it: it can't be undone"
    ++ codes "\ngo on? [y/N] "

-- where a yes is due, just one was taken from what is typed; else nothing was
abbrev pub IsConfirmed : Bool → Option (List ℕ) → Option (List ℕ) → Type 0
IsConfirmed true typed left = SaysYes typed left
IsConfirmed false typed left = left ≡ typed

-- a request of which a yes is due, where someone is at the terminal
abbrev pub wants_yes : Request → Bool → Bool
wants_yes (Use options task sequel) is_there = is_there && erases_for_good task
wants_yes other is_there = false

-- the words ask for no request of which a yes is due
abbrev pub WantNoYes : Environment → List (List ℕ) → Bool → Type 0
WantNoYes e words is_there = (request : Request) → IsAskedFor e words request
    → wants_yes request is_there ≡ false
