use Rattle.std.proofs.Common.{subst}
use Rattle.stm_sim.specs.Memory.{IsMemory, rig_state}
use Rattle.stm_wire.proofs.Names.{GetsHonestly}
use Rattle.stm_files.specs.SimulatorRig.{SimulatorState, simulator_rig_state}
use Rattle.stm_files.specs.lemmas.SimulatorRigLaws.{counted, gets}
use Rattle.stm_files.proofs.simulator_rig.SimulatorRigRig.get.Goals as goal

pub returns-clause-honest : goal.returns-clause-honest
returns-clause-honest g c =
    let was = c.self.inside in
    let count = was.journal_failures in
    let Goal : SimulatorState → Type 0 = λ s. IsMemory s.memory
    → GetsHonestly c.get.result (simulator_rig_state s) (counted count (rig_state c.get.new.self)) in
    subst Goal c.self.view_is
    (λ is. gets c.get.result count count (rig_state was.memory) (rig_state c.get.new.self) (c.get.ensures.honest is))
