use Rattle.stmflash.proofs.DeviceUse.{on-connected, on-simulated, uses-once, uses-plan}
use Rattle.stmflash.proofs.on_device.use_once.Goals as goal

pub returns-in-Simulator : goal.returns-in-Simulator
returns-in-Simulator g c =
    uses-once _ _ _ _ _ _ _ _ _ _ c.in_ok-plan.ensures
    (on-simulated _ _ _ _ _ _ _ _ c.in-Simulator.is
    (uses-plan _ _ _ _ _ _ _ _ _ _ _ c.take_on-taken.ensures c.close_simulator.ensures))

pub returns : goal.returns
returns g c =
    uses-once _ _ _ _ _ _ _ _ _ _ c.in_ok-plan.ensures
    (on-connected _ _ _ _ _ _ _ c.in-Socket.is
    (uses-plan _ _ _ _ _ _ _ _ _ _ _ c.take_on-taken-in-Socket.ensures c.close_socket.ensures))
