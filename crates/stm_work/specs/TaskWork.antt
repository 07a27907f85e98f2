-- Which work a task asks for.
use Rattle.std.specs.Prelude.{◌≡◌, true, false}
use Rattle.stm_words.specs.declared.task.Task.{Task}
use Rattle.stm_words.specs.declared.task.Task.TheVariants as task
use Rattle.stm_work.specs.declared.action.Action.{Action}
use Rattle.stm_work.specs.declared.work.Work.{Work}
use Rattle.stm_work.specs.declared.work.Work.TheVariants as work
use Rattle.stm_work.specs.Action.{IsFor}

-- the work is an action, and this one
abbrev pub IsAct : (Action → Type 0) → Work → Type 0
IsAct P does = (act : Action) × (does ≡ work.Act act) × P act

-- What the device says itself, a sum and a read as HEX are works of their own, with the same part
-- of the flash, and so is an undo as far back; all else is the action that the task asks for.
abbrev pub IsWorkFor : Task → Work → Type 0
IsWorkFor (task.Info true) does = does ≡ work.Identify
IsWorkFor (task.Sum range) does = does ≡ work.Sum range
IsWorkFor (task.ReadHex range out skips) does = does ≡ work.ReadHex range skips
IsWorkFor (task.Undo extent verifies) does = does ≡ work.Undo extent verifies
IsWorkFor other does = IsAct (IsFor other) does
