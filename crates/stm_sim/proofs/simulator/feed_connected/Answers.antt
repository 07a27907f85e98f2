use Rattle.stm_sim.specs.Simulator.{simulator_codes}
use Rattle.stm_sim.proofs.simulator.feed_connected.Goals as goal

pub returns-in-Some-Refused-clause-current : goal.returns-in-Some-Refused-clause-current
returns-in-Some-Refused-clause-current c = c.clear.ensures.current c.args.chip.now (simulator_codes c.args.chip.now.kind)
