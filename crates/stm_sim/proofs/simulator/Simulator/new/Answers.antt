use Rattle.std.proofs.Common.{rules}
use Rattle.stm_sim.specs.Simulator.{simulator_codes}
use Rattle.stm_sim.proofs.simulator.Simulator.new.Goals as goal

pub invariant_of-result : goal.invariant_of-result
invariant_of-result c = (search rules, c.new-2.ensures.current c.args.chip (simulator_codes c.args.chip.kind))
