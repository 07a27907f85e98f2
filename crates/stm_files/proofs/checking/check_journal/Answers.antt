use Rattle.stm_files.proofs.Checks.{tells, tied-first}
use Rattle.stm_files.proofs.checking.check_journal.Goals as goal

pub returns-clause-honest : goal.returns-clause-honest
returns-clause-honest g c = λ honest.
    let V = g.L.Rig.view in
    let bytes = (V c.args.rig.now).journal in
    let counted = c.in_ok-tally.ensures.honest honest in
    let loads = c.in_ok-journal.ensures.honest counted.0.honest in
    let tied = tied-first bytes c.in_ok-journal.journal (V c.count_lines.new.rig) (V c.load.new.rig) counted.0.journal loads in
    tells bytes tied.0 c.check_lines.result (λ t. t.items) tied.1.means (c.check_lines.ensures.honest bytes tied.0 tied.1 counted.1)
