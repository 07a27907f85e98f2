use Rattle.stmflash.proofs.TaskUse.{uses-beside}
use Rattle.stmflash.proofs.on_device.use_files.Goals as goal

pub returns : goal.returns
returns g c =
    uses-beside _ _ _ _ _ _ _ _ _ _ c.in_ok-output.ensures c.in_ok-steps.ensures c.tell_beside.ensures
