use Rattle.std.proofs.Common.{rules, ◌≡◌, true, not, None, Some, ◌∙◌}
use Rattle.stm_journal.proofs.Names.{names_other}
use Rattle.stm_session.proofs.Names.{device_refusals, Fault, first_refusal}
use Rattle.stm_session.proofs.Openings.{device_refusal, has_chip, lacks_chip, on_err}
use Rattle.stm_session.proofs.opening.find_chip.Goals as goal

pub returns-in_default-clause-refused : goal.returns-in_default-clause-refused
returns-in_default-clause-refused c =
    let own : not (names_other c.args.id c.args.journal.now.state) ≡ true = search (rules, c.is_of.ensures, c.if-not-is_of.false) in
    device_refusal c.args.journal.now.state c.args.id c.args.table.now None own (lacks_chip c.args.table.now c.args.id c.in_default.ensures)

pub returns-in_err-check_kept-clause-refused : goal.returns-in_err-check_kept-clause-refused
returns-in_err-check_kept-clause-refused c =
    let own : not (names_other c.args.id c.args.journal.now.state) ≡ true = search (rules, c.is_of.ensures, c.if-not-is_of.false) in
    let P : Fault → Type 0 = λ fault. first_refusal (device_refusals c.args.journal.now.state c.args.id c.args.table.now) ≡ Some fault in
    on_err P c.from_residual.result _ c.from_residual.ensures.1
    (device_refusal c.args.journal.now.state c.args.id c.args.table.now _ own (has_chip c.args.table.now c.args.id _ c.in-Some.ensures) ∙ c.in_err-check_kept.ensures)

pub returns-clause-accepted : goal.returns-clause-accepted
returns-clause-accepted c =
    let own : not (names_other c.args.id c.args.journal.now.state) ≡ true = search (rules, c.is_of.ensures, c.if-not-is_of.false) in
    device_refusal c.args.journal.now.state c.args.id c.args.table.now _ own (has_chip c.args.table.now c.args.id _ c.in-Some.ensures) ∙ c.in_ok-check_kept.ensures
