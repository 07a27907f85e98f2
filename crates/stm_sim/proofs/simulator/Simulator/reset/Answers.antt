use Rattle.std.proofs.Common.{rules}
use Rattle.stm_sim.specs.Simulator.{simulator_codes}
use Rattle.stm_sim.proofs.simulator.Simulator.reset.Goals as goal

pub invariant_of-self : goal.invariant_of-self
invariant_of-self c = (search rules, c.clear.ensures.current c.self.inside.chip (simulator_codes c.self.inside.chip.kind))
