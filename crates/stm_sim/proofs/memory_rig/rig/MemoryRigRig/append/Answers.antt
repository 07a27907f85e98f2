use Rattle.stm_sim.specs.lemmas.Honest.{append-honest}
use Rattle.stm_sim.specs.lemmas.Recording.{append_recorded, append_entered}
use Rattle.stm_sim.proofs.memory_rig.rig.MemoryRigRig.append.Goals as goal

pub returns-clause-honest : goal.returns-clause-honest
returns-clause-honest c is =
    append-honest c.args.bytes.now c.append_bytes.result c.args.self.now c.append_bytes.new.self c.append_bytes.ensures.limit is c.append_bytes.ensures.simulated

pub returns-clause-recorded : goal.returns-clause-recorded
returns-clause-recorded c = append_recorded c.args.bytes.now c.append_bytes.result c.args.self.now c.append_bytes.new.self c.append_bytes.ensures.simulated

pub returns-clause-entered : goal.returns-clause-entered
returns-clause-entered c = append_entered c.args.bytes.now c.append_bytes.result c.args.self.now c.append_bytes.new.self c.append_bytes.ensures.simulated
