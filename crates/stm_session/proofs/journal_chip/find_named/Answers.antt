use Rattle.std.proofs.Common.{◌≡◌, Option, Some, ap, ◌∙◌}
use Rattle.stm_wire.proofs.Names.{ChipData}
use Rattle.stm_session.proofs.Names.{chip_with, Fault, table_refusal}
use Rattle.stm_session.proofs.Fitting.{unrefused-fits}
use Rattle.stm_session.proofs.Openings.{has_chip, lacks_chip, on_err}
use Rattle.stm_session.proofs.journal_chip.find_named.Goals as goal

pub returns-in_default-clause-refused : goal.returns-in_default-clause-refused
returns-in_default-clause-refused c = ap (λ (o : Option ChipData). table_refusal c.args.journal.now.state c.args.id o) (lacks_chip c.args.table.now c.args.id c.in_default.ensures)

pub returns-in_err-check_kept-clause-refused : goal.returns-in_err-check_kept-clause-refused
returns-in_err-check_kept-clause-refused c =
    let P : Fault → Type 0 = λ fault. table_refusal c.args.journal.now.state c.args.id (chip_with c.args.table.now c.args.id) ≡ Some fault in
    on_err P c.from_residual.result _ c.from_residual.ensures.1
    (ap (λ (o : Option ChipData). table_refusal c.args.journal.now.state c.args.id o) (has_chip c.args.table.now c.args.id _ c.in-Some.ensures) ∙ c.in_err-check_kept.ensures)

pub returns-clause-fits : goal.returns-clause-fits
returns-clause-fits c = (unrefused-fits c.in-Some.chip.now c.args.journal.now.state c.in_ok-check_kept.ensures).pages

pub returns-clause-accepted : goal.returns-clause-accepted
returns-clause-accepted c = ap (λ (o : Option ChipData). table_refusal c.args.journal.now.state c.args.id o) (has_chip c.args.table.now c.args.id _ c.in-Some.ensures) ∙ c.in_ok-check_kept.ensures

pub returns-clause-board : goal.returns-clause-board
returns-clause-board c = (unrefused-fits c.in-Some.chip.now c.args.journal.now.state c.in_ok-check_kept.ensures).board
