use Rattle.stm_sim.specs.lemmas.BadLineRecords.{list_get_recorded}
use Rattle.stm_sim.proofs.list_rig.ListRigRig.get.Goals as goal

pub returns-clause-recorded : goal.returns-clause-recorded
returns-clause-recorded c = list_get_recorded c.give_reply.result c.args.self.now c.give_reply.new.self c.give_reply.ensures.given
