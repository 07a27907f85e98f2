use Rattle.stm_sim.specs.lemmas.BadLineRecords.{list_fetch_recorded}
use Rattle.stm_sim.proofs.list_rig.ListRigRig.fetch.Goals as goal

pub returns-clause-recorded : goal.returns-clause-recorded
returns-clause-recorded c = list_fetch_recorded c.args.buf.now c.fetch_nothing.new.buf c.fetch_nothing.result c.args.self.now c.fetch_nothing.new.self c.fetch_nothing.ensures.given
