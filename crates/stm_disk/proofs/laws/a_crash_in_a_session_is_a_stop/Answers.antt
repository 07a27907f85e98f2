use Rattle.stm_disk.proofs.OnDisk.{crashes_in_sessions}
use Rattle.stm_disk.proofs.laws.a_crash_in_a_session_is_a_stop.Goals as goal

pub returns : goal.returns
returns g c = crashes_in_sessions g.R.Rig.view g.F.GrowingFile.view
