use Rattle.stm_sim.specs.lemmas.BadLineRecords.{flip_put_recorded}
use Rattle.stm_sim.proofs.flip_rig.FlipRigRig.put.Goals as goal

pub returns-clause-recorded : goal.returns-clause-recorded
returns-clause-recorded c = flip_put_recorded c.args.byte c.hand_put_on.result c.args.self.now c.hand_put_on.new.self c.hand_put_on.ensures.handed_on
