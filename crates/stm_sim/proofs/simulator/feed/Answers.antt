use Rattle.stm_sim.specs.Simulator.{simulator_codes}
use Rattle.stm_sim.proofs.simulator.feed.Goals as goal

pub returns-then-byte-eq127-clause-current : goal.returns-then-byte-eq127-clause-current
returns-then-byte-eq127-clause-current c = c.clear.ensures.current c.args.chip.now (simulator_codes c.args.chip.now.kind)
