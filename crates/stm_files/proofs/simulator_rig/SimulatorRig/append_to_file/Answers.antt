use Rattle.std.proofs.Common.{drop, sym, ap, ◌∙◌}
use Rattle.stm_files.specs.SimulatorRig.{SimulatorState}
use Rattle.stm_files.proofs.PageSeals.{none-added, none-behind}
use Rattle.stm_files.proofs.simulator_rig.SimulatorRig.append_to_file.Goals as goal

pub returns-then-is_empty-clause-added : goal.returns-then-is_empty-clause-added
returns-then-is_empty-clause-added g c =
    let journal = c.args.self.now.memory.journal in
    let same = c.journal.ensures.bytes ∙ ap (λ (s : SimulatorState). s.memory.journal) c.self.view_is in
    none-added c.args.self.now.file.names_board (drop c.args.start journal) c.args.self.now.file.known
    (none-behind c.args.start c.journal.result.now journal same (sym c.if-is_empty.ensures))
