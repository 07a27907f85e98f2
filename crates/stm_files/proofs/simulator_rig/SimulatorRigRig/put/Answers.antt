use Rattle.std.proofs.Common.{subst}
use Rattle.stm_sim.specs.Memory.{IsMemory, rig_state}
use Rattle.stm_wire.proofs.Names.{PutsHonestly}
use Rattle.stm_files.specs.SimulatorRig.{SimulatorState, simulator_rig_state}
use Rattle.stm_files.specs.lemmas.SimulatorRigLaws.{counted, puts}
use Rattle.stm_files.proofs.simulator_rig.SimulatorRigRig.put.Goals as goal

pub returns-clause-honest : goal.returns-clause-honest
returns-clause-honest g c =
    let was = c.self.inside in
    let count = was.journal_failures in
    let Goal : SimulatorState → Type 0 = λ s. IsMemory s.memory
    → PutsHonestly {T = Unit {0}} c.args.byte c.put.result (simulator_rig_state s) (counted count (rig_state c.put.new.self)) in
    subst Goal c.self.view_is
    (λ is. puts c.args.byte c.put.result count count (rig_state was.memory) (rig_state c.put.new.self) (c.put.ensures.honest is))
