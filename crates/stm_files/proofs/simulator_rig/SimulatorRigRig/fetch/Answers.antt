use Rattle.std.proofs.Common.{◌≡◌}
use Rattle.stm_files.specs.SimulatorRig.{SimulatorState}
use Rattle.stm_files.specs.lemmas.SimulatorRigLaws.{fetched}
use Rattle.stm_files.proofs.simulator_rig.SimulatorRigRig.fetch.Goals as goal

pub returns-clause-honest : goal.returns-clause-honest
returns-clause-honest g c =
    let at = c.args.at in
    let before = c.args.buf.now in
    let done = c.count_journal-2 in
    let got = c.fetch-answer in
    let old : SimulatorState =
    record { memory = c.self.inside.memory; file = c.self.inside.file; journal_failures = c.self.inside.journal_failures } in
    let memory_is : done.new.self.memory ≡ got.new.self = done.ensures.memory in
    rw (← c.self.view_is) (λ honest. fetched at before got.new.buf got.result done.result old done.new.self got.new.self memory_is done.ensures.answer (got.ensures.honest honest))
