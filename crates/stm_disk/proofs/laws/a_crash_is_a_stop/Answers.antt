use Rattle.stm_disk.proofs.Stopping.{crashes_are_stops}
use Rattle.stm_disk.proofs.laws.a_crash_is_a_stop.Goals as goal

pub returns : goal.returns
returns c = crashes_are_stops
