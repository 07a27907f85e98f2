use Rattle.stm_sim.specs.lemmas.Honest.{fetch-honest}
use Rattle.stm_sim.specs.lemmas.Recording.{fetch_recorded, fetch_entered}
use Rattle.stm_sim.proofs.memory_rig.rig.MemoryRigRig.fetch.Goals as goal

pub returns-clause-honest : goal.returns-clause-honest
returns-clause-honest c is =
    fetch-honest c.args.at c.args.buf.now c.fetch_bytes.new.buf c.fetch_bytes.result c.args.self.now c.fetch_bytes.new.self is c.fetch_bytes.ensures.simulated

pub returns-clause-recorded : goal.returns-clause-recorded
returns-clause-recorded c = fetch_recorded c.args.at c.args.buf.now c.fetch_bytes.new.buf c.fetch_bytes.result c.args.self.now c.fetch_bytes.new.self c.fetch_bytes.ensures.simulated

pub returns-clause-entered : goal.returns-clause-entered
returns-clause-entered c = fetch_entered c.args.at c.args.buf.now c.fetch_bytes.new.buf c.fetch_bytes.result c.args.self.now c.fetch_bytes.new.self c.fetch_bytes.ensures.simulated
