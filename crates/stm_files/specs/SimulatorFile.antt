-- How a simulator is brought to where it stood.
use Rattle.std.specs.Prelude.{◌≡◌, ℕ, List, []}
use Rattle.stm_wire.specs.Chip.{ChipData}
use Rattle.stm_wire.specs.Device.{Device, Phase}
use Rattle.stm_sim.specs.Memory.{IsMemory, MemoryData, no_plan}
use Rattle.stm_sim.specs.Simulator.{device_of, simulated_device}
use Rattle.stm_sim.specs.declared.simulator.Stage.TheVariants.{Fresh as StageFresh}

-- the device, with no byte owed and in this phase
abbrev pub standing_at : Phase → Device → Device
standing_at phase d = record d { owed = []; phase = phase }

-- the simulator of this chip, with this flash and in this phase, which owes nothing
abbrev pub simulator_at : ChipData → List ℕ → Phase → Device
simulator_at chip flash phase = standing_at phase (device_of chip flash [] [] StageFresh)

-- the device after a byte, where all replies are taken
abbrev pub fed_byte : ℕ → Device → Device
fed_byte byte d = record (simulated_device byte d) { owed = [] }

-- the device became this one, and all else that a caller may see but the record is as it was
pub record Becomes (left : Device) (old new : MemoryData) : Type 0 where
  pub device : new.device ≡ left
  pub journal : new.journal ≡ old.journal
  pub plan : old.plan ≡ no_plan → new.plan ≡ no_plan
  pub honest : IsMemory old → IsMemory new

-- a simulator that stands so, beside this journal, with no stop or failure ahead
pub record StandsSo (left : Device) (written : List ℕ) (rig : MemoryData) : Type 0 where
  pub device : rig.device ≡ left
  pub journal : rig.journal ≡ written
  pub plan : rig.plan ≡ no_plan
  pub honest : IsMemory rig
