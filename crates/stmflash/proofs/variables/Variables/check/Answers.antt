use Rattle.std.proofs.Common.{Result, Ok, Err, inr}
use Rattle.stm_work.specs.declared.failure.Failure.{Failure}
use Rattle.stmflash.specs.declared.variables.Variables.{Variables}
use Rattle.stmflash.specs.Variables.{AreChecked, EachIsRead, ComesOfEach, names_of, others_of}
use Rattle.stmflash.proofs.variables.Variables.check.Goals as goal

joined : (v : Variables) (came : Result (Unit {0}) Failure) → EachIsRead (names_of v) → ComesOfEach (others_of v) came → AreChecked v came
joined v (Ok _) read more = (read, more)
joined v (Err failure) read more = inr (read, more)

pub returns : goal.returns
returns c = joined c.args.self.now c.check_others.result c.in_ok-check_names.ensures c.check_others.ensures
