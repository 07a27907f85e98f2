use Rattle.stm_sim.specs.Simulator.{simulator_codes}
use Rattle.stm_sim.proofs.simulator.finish_loose.Goals as goal

pub returns-clause-current : goal.returns-clause-current
returns-clause-current c = c.clear.ensures.current c.args.chip.now (simulator_codes c.args.chip.now.kind)
