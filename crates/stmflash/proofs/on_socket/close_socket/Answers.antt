use Rattle.stmflash.proofs.DeviceUse.{are-left, tells-again}
use Rattle.stmflash.proofs.on_socket.close_socket.Goals as goal

pub returns : goal.returns
returns g c =
    are-left _ _ _ _ (tells-again _ _ _ c.failed_if-done.ensures c.done_on-done.ensures) c.write_done.ensures
