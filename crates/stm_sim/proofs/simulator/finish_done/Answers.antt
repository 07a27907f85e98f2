use Rattle.stm_sim.specs.Simulator.{simulator_codes}
use Rattle.stm_sim.specs.lemmas.Simulated.{done-change-fits}
use Rattle.stm_sim.proofs.simulator.finish_done.Goals as goal

pub change_flash-requires-clause-fits : goal.change_flash-requires-clause-fits
change_flash-requires-clause-fits c =
    let chip = c.args.chip.now in
    rw c.bytes-bytes.ensures (done-change-fits chip (simulator_codes chip.kind) c.args.rest.now.bytes.items c.requires.done)

pub returns-clause-current : goal.returns-clause-current
returns-clause-current c = c.clear.ensures.current c.args.chip.now (simulator_codes c.args.chip.now.kind)
