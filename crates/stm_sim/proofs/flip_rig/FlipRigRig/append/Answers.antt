use Rattle.stm_sim.specs.lemmas.BadLineRecords.{flip_append_recorded}
use Rattle.stm_sim.proofs.flip_rig.FlipRigRig.append.Goals as goal

pub returns-clause-recorded : goal.returns-clause-recorded
returns-clause-recorded c = flip_append_recorded c.args.bytes.now c.hand_append_on.result c.args.self.now c.hand_append_on.new.self c.hand_append_on.ensures.handed_on
