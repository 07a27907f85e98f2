-- A simulated device with a journal in a file, as contracts see it, and what its calls do.
use Rattle.std.specs.Prelude.{◌≡◌, ◌⊎◌, ℕ, List, ◌++◌, true, false, Result, Err}
use Rattle.stm_wire.specs.declared.fault.RigFault.{RigFault}
use Rattle.stm_wire.specs.declared.fault.RigFault.TheVariants.{File}
use Rattle.stm_sim.specs.Memory.{MemoryData, rig_state, AppendsInMemory, FetchesInMemory}
use Rattle.stm_wire.specs.Rig.{RigState}
use Rattle.stm_files.specs.JournalFile.{JournalBytes}
use Rattle.stm_files.specs.PageSeal.{AppendsSealed}

pub record SimulatorState : Type 0 where
  -- the device, the steps to a stop, the record, and the journal's bytes as
  -- they should be in the file
  pub memory : MemoryData
  pub file : JournalBytes
  -- of the file and of the journal in memory
  pub journal_failures : ℕ

-- What it tells of itself: it follows the model as the Rig in memory does, whose device and journal
-- are its own. So the model's journal is the one in memory; what of it stands in the file is said
-- by `AppendsToFile`. It promises no room in the record, since a call that is refused once the file
-- failed doesn't stand there.
abbrev pub simulator_rig_state : SimulatorState → RigState
simulator_rig_state s =
    record (rig_state s.memory) { journal_failures = s.journal_failures; has_room = ⊥ }

-- the journal grew by the same bytes in memory and, where the file's bytes are known, there, with what
-- seals them behind
abbrev pub GrowsAlike : SimulatorState → SimulatorState → Type 0
GrowsAlike old new = (added : List ℕ) × (new.memory.journal ≡ old.memory.journal ++ added)
    × AppendsSealed new.file.names_board old.file.known new.file.known added

-- An append goes to the memory first, which says what is added. Its answer stands where the file
-- took just that; else the answer is that the file failed.
pub record AppendsToBoth (bytes : List ℕ) (result : Result (Unit {0}) RigFault)
    (old new : SimulatorState) : Type 0 where
  pub answer : Result (Unit {0}) RigFault
  pub in_memory : AppendsInMemory bytes answer old.memory new.memory
  pub in_file : ((result ≡ answer) × GrowsAlike old new)
      ⊎ ((result ≡ Err File) × (new.file.has_failed ≡ true))

-- once the file failed, nothing is added to either
pub record AppendsToFile (bytes : List ℕ) (result : Result (Unit {0}) RigFault)
    (old new : SimulatorState) : Type 0 where
  pub failed : old.file.has_failed ≡ true
      → (result ≡ Err File) × (new.memory ≡ old.memory) × (new.file ≡ old.file)
  pub appended : old.file.has_failed ≡ false → AppendsToBoth bytes result old new

-- A fetch answers from the memory, and fails once the file did.
pub record FetchesUnlessFailed (at : ℕ) (before after : List ℕ) (result : Result ℕ RigFault)
    (old new : SimulatorState) : Type 0 where
  pub failed : old.file.has_failed ≡ true → (result ≡ Err File) × (new.memory ≡ old.memory)
  pub in_memory : old.file.has_failed ≡ false
      → FetchesInMemory at before after result old.memory new.memory
