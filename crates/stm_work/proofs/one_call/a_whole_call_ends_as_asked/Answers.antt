use Rattle.stm_work.proofs.WholeCalls.{whole-calls-end-as-asked}
use Rattle.stm_work.proofs.one_call.a_whole_call_ends_as_asked.Goals as goal

pub returns : goal.returns
returns g c =
    whole-calls-end-as-asked g.L.Rig.view c.told_board_is_the_devices.ensures
    c.a_call_ends_as_asked.ensures
