use Rattle.stm_sim.specs.lemmas.BadLineRecords.{flip_get_recorded}
use Rattle.stm_sim.proofs.flip_rig.FlipRigRig.get.Goals as goal

pub returns-clause-recorded : goal.returns-clause-recorded
returns-clause-recorded c = flip_get_recorded c.hand_get_on.result c.args.self.now c.hand_get_on.new.self c.hand_get_on.ensures.handed_on
