use Rattle.stm_disk.proofs.Stopping.{crashes_are_good}
use Rattle.stm_disk.proofs.laws.a_crash_in_an_append_is_good.Goals as goal

pub returns : goal.returns
returns c = crashes_are_good c.a_crash_is_a_stop.ensures c.a_stopped_append_is_good.ensures
