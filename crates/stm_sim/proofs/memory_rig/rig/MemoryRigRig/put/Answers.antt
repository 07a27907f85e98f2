use Rattle.std.proofs.Common.{◌<◌, arith}
use Rattle.stm_sim.specs.lemmas.Honest.{put-honest}
use Rattle.stm_sim.specs.lemmas.Recording.{put_recorded, put_entered}
use Rattle.stm_sim.proofs.memory_rig.rig.MemoryRigRig.put.Goals as goal

pub returns-clause-honest : goal.returns-clause-honest
returns-clause-honest c is =
    let small : c.args.byte < 256 = omega arith in
    put-honest c.args.byte c.put_byte.result c.args.self.now c.put_byte.new.self small is c.put_byte.ensures.simulated

pub returns-clause-recorded : goal.returns-clause-recorded
returns-clause-recorded c = put_recorded c.args.byte c.put_byte.result c.args.self.now c.put_byte.new.self c.put_byte.ensures.simulated

pub returns-clause-entered : goal.returns-clause-entered
returns-clause-entered c = put_entered c.args.byte c.put_byte.result c.args.self.now c.put_byte.new.self c.put_byte.ensures.simulated
