-- A simulator that is served.
use Rattle.std.specs.Prelude.{ℕ, List, fold}
use Rattle.stm_wire.specs.Device.{Device}
use Rattle.stm_sim.specs.Simulator.{simulated_device}

-- the device after these bytes, one after the other
abbrev pub fed_all : Device → List ℕ → Device
fed_all d bytes = fold (λ (d : Device) (byte : ℕ). simulated_device byte d) d bytes
