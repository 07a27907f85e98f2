-- Which failures break a session off, so that another may do what it was to do.
use Rattle.std.specs.Prelude.{Bool, true, false}
use Rattle.stm_work.specs.declared.failure.Failure.{Failure}
use Rattle.stm_work.specs.declared.failure.Failure.TheVariants.{NoAnswer, Session}
use Rattle.stm_session.specs.declared.fault.Fault.TheVariants.{Device, Line}

-- by its line, or by a device that doesn't follow the protocol or doesn't answer
abbrev pub is_broken_off : Failure → Bool
is_broken_off (Session Line) = true
is_broken_off (Session Device) = true
is_broken_off NoAnswer = true
is_broken_off failure = false
