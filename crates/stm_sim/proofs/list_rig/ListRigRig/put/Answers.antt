use Rattle.std.proofs.Common.{refl}
use Rattle.stm_sim.specs.lemmas.BadLineRecords.{list_line_recorded}
use Rattle.stm_sim.proofs.list_rig.ListRigRig.put.Goals as goal

pub returns-clause-recorded : goal.returns-clause-recorded
returns-clause-recorded c = list_line_recorded _ c.enter_line_call.result c.args.self.now c.enter_line_call.new.self refl c.enter_line_call.ensures.entered
