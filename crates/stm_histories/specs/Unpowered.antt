-- An action on a simulator in the process that is stopped, a loss of power, and an undo in the next
-- run of the program.
use Rattle.std.specs.Prelude.{◌≡◌, ℕ, List, Result, Ok}
use Rattle.stm_sim.specs.declared.plan.Stop.TheVariants.{After}
use Rattle.stm_wire.specs.Chip.{ChipData}
use Rattle.stm_wire.specs.Harmless.{SameOutside}
use Rattle.stm_sim.specs.Memory.{MemoryData, rig_state}
use Rattle.stm_session.specs.Events.{Knows, Leads, World, lost_owed, lost_power, now_of}
use Rattle.stm_session.specs.Moments.{SameMake}
use Rattle.stm_work.specs.declared.action.Action.{Action}
use Rattle.stm_work.specs.declared.action.Action.TheVariants as action
use Rattle.stm_work.specs.declared.answer.Answer.{Answer}
use Rattle.stm_work.specs.declared.failure.Failure.{Failure}
use Rattle.stm_files.specs.declared.simulator_file.StoredSimulator.{StoredSimulator}
use Rattle.stm_work.specs.Action.{DoesAction}
use Rattle.stm_histories.specs.Histories.{StaysInSession}
use Rattle.stm_files.specs.SimulatorFile.{simulator_at}
use Rattle.stm_files.specs.SimulatorRig.{SimulatorState, simulator_rig_state}
use Rattle.stm_files.specs.Standing.{standing_phase}

-- what a run of the program finds: the simulator as its files hold it, and the journal beside it
abbrev pub found : StoredSimulator → List ℕ → World
found stored journal =
    record {
      device = simulator_at stored.chip stored.flash.items (standing_phase stored.standing);
      journal = journal;
    }

-- the table knows this device, and the action stays in the session
pub record SuitsWorld (table : List ChipData) (does : Action) (w : World) : Type 0 where
  pub knows : Knows table w
  pub stays : StaysInSession does w.journal

-- The action is done on the program's own Rig, over this memory, and leaves that one.
pub record DoesOnFiles (table : List ChipData) (does : Action) (old new : MemoryData)
    (said : Result Answer Failure) : Type 0 where
  pub first : SimulatorState
  pub last : SimulatorState
  pub begins : first.memory ≡ old
  pub leaves : last.memory ≡ new
  pub done : DoesAction simulator_rig_state table does first last said

-- these pages alone may hold other bytes; the journal is the same
pub record SpoilsOnly (pages : List ℕ) (old new : MemoryData) : Type 0 where
  pub make : SameMake old.device new.device
  pub flash : SameOutside old.device.chip pages old.device.flash new.device.flash
  pub journal : new.journal ≡ old.journal
  pub honest : (rig_state old).is_honest → (rig_state new).is_honest

-- What was done on the program's own Rig, each step from where the one before left it: the action,
-- with a stop ahead; a loss of power; what is owed is lost between two runs of the program; and an
-- undo of everything, which answered Ok.
pub record IsUndoneUnpowered (table : List ChipData) (does : Action) (steps : ℕ) (w : World)
    (left : MemoryData) : Type 0 where
  pub first : SimulatorState
  pub stopped : SimulatorState
  pub lost : World
  pub again : SimulatorState
  pub last : SimulatorState
  pub said : Result Answer Failure
  pub told : Answer
  pub begins : now_of (simulator_rig_state first) ≡ w
  pub stops : first.memory.plan.stop ≡ After steps
  pub acts : DoesAction simulator_rig_state table does first stopped said
  pub loses : Leads simulator_rig_state lost_power (now_of (simulator_rig_state stopped)) lost
  pub owes : Leads simulator_rig_state lost_owed lost (now_of (simulator_rig_state again))
  pub undoes : DoesAction simulator_rig_state table (action.Undo 0) again last (Ok told)
  pub ends : last.memory ≡ left
