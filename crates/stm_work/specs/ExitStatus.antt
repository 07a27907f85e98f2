-- The program's exit status.
use Rattle.std.specs.Prelude.{ℕ}
use Rattle.stm_work.specs.declared.failure.Failure.{Failure}
use Rattle.stm_work.specs.declared.failure.Failure.TheVariants.{Usage, Stopped}

-- of words that can't be done, of a stop that was asked for, and of all else
abbrev pub status_of : Failure → ℕ
status_of (Usage why) = 2
status_of Stopped = 3
status_of failure = 1
