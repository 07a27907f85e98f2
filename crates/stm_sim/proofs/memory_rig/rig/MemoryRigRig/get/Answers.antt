use Rattle.stm_sim.specs.lemmas.Honest.{get-honest}
use Rattle.stm_sim.specs.lemmas.Recording.{get_recorded, get_entered}
use Rattle.stm_sim.proofs.memory_rig.rig.MemoryRigRig.get.Goals as goal

pub returns-clause-honest : goal.returns-clause-honest
returns-clause-honest c is = get-honest c.get_byte.result c.args.self.now c.get_byte.new.self is c.get_byte.ensures.simulated

pub returns-clause-recorded : goal.returns-clause-recorded
returns-clause-recorded c = get_recorded c.get_byte.result c.args.self.now c.get_byte.new.self c.get_byte.ensures.simulated

pub returns-clause-entered : goal.returns-clause-entered
returns-clause-entered c = get_entered c.get_byte.result c.args.self.now c.get_byte.new.self c.get_byte.ensures.simulated
