-- What is told of a journal alone, of the state that it was loaded to.
use Rattle.std.specs.Prelude.{◌≡◌, ℕ, List, Option, None, Some}
use Rattle.stm_journal.specs.States.{StateData}
use Rattle.stm_files.specs.declared.begun.Note.{Note}
use Rattle.stm_files.specs.Logging.{log_text}
use Rattle.stm_work.specs.Keeping.{IsCutTo, IsGivenUp}
use Rattle.stm_work.specs.declared.answer.Answer.{Answer}
use Rattle.stm_work.specs.declared.answer.Answer.TheVariants.{Logged}

-- its log, with what is said of the beginning of segments
abbrev pub TellsLog : StateData → Answer → Type 0
TellsLog state (Logged text segments) = (notes : List Note) × (text.items ≡ log_text notes state)
TellsLog state other = ⊥

-- that it was given up: whole, or but for so many of the newest; nothing of it was unfinished
abbrev pub TellsKept : Option ℕ → StateData → Answer → Type 0
TellsKept None state told = IsGivenUp state told
TellsKept (Some last) state told = IsCutTo last state told
