use Rattle.stm_sim.specs.lemmas.BadLineRecords.{flip_fetch_recorded}
use Rattle.stm_sim.proofs.flip_rig.FlipRigRig.fetch.Goals as goal

pub returns-clause-recorded : goal.returns-clause-recorded
returns-clause-recorded c = flip_fetch_recorded c.args.at c.args.buf.now c.hand_fetch_on.new.buf c.hand_fetch_on.result c.args.self.now c.hand_fetch_on.new.self c.hand_fetch_on.ensures.handed_on
