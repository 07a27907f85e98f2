use Rattle.stm_files.specs.SimulatorFile.{Becomes}
use Rattle.stm_files.proofs.restoring.take_replies.Given as goal

abbrev pub invariant-loop : goal.invariant-loop
invariant-loop l = Becomes (record l.fn.rig.device { owed = l.rig.device.owed }) l.fn.rig l.rig
