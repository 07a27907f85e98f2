use Rattle.stmflash.proofs.DeviceUse.{are-left, ok-of, tells-again}
use Rattle.stmflash.proofs.on_simulator.close_simulator.Goals as goal

pub returns : goal.returns
returns g c =
    let tells = tells-again _ _ _ c.done_on-done.ensures c.failed_if-done.ensures in
    ok-of _ _ _ (are-left _ _ _ _ tells c.write_done-done.ensures) c.done_stored.ensures
