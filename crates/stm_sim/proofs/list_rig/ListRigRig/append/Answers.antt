use Rattle.stm_sim.specs.lemmas.BadLineRecords.{list_append_recorded}
use Rattle.stm_sim.proofs.list_rig.ListRigRig.append.Goals as goal

pub returns-clause-recorded : goal.returns-clause-recorded
returns-clause-recorded c = list_append_recorded c.args.bytes.now c.enter_append.result c.args.self.now c.enter_append.new.self c.enter_append.ensures.entered
