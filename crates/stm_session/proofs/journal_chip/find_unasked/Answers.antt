use Rattle.std.proofs.Common.{◌≡◌, Option, Some, ap, ◌∙◌}
use Rattle.stm_wire.proofs.Names.{ChipData}
use Rattle.stm_session.proofs.Names.{chip_with, Fault, IsLaterRefusal, unlisted_refusal}
use Rattle.stm_session.proofs.Openings.{has_chip, lacks_chip, on_err}
use Rattle.stm_session.proofs.Unasked.{unasked_later}
use Rattle.stm_session.proofs.journal_chip.find_unasked.Goals as goal

pub returns-in_default-clause-refused : goal.returns-in_default-clause-refused
returns-in_default-clause-refused c = ap (λ (o : Option ChipData). unlisted_refusal c.args.journal.now.state c.args.id o) (lacks_chip c.args.table.now c.args.id c.in_default.ensures)

pub returns-in_err-check_unasked-clause-refused : goal.returns-in_err-check_unasked-clause-refused
returns-in_err-check_unasked-clause-refused c =
    let P : Fault → Type 0 = λ fault. unlisted_refusal c.args.journal.now.state c.args.id (chip_with c.args.table.now c.args.id) ≡ Some fault in
    on_err P c.from_residual.result _ c.from_residual.ensures.1
    (ap (λ (o : Option ChipData). unlisted_refusal c.args.journal.now.state c.args.id o) (has_chip c.args.table.now c.args.id _ c.in-Some.ensures) ∙ c.in_err-check_unasked.ensures)

pub returns-clause-accepted : goal.returns-clause-accepted
returns-clause-accepted c = ap (λ (o : Option ChipData). unlisted_refusal c.args.journal.now.state c.args.id o) (has_chip c.args.table.now c.args.id _ c.in-Some.ensures) ∙ c.in_ok-check_unasked.ensures

pub returns-in_err-check_unasked-clause-named : goal.returns-in_err-check_unasked-clause-named
returns-in_err-check_unasked-clause-named c =
    on_err IsLaterRefusal c.from_residual.result _ c.from_residual.ensures.1 (unasked_later c.in-Some.chip.now c.args.journal.now.state _ c.in_err-check_unasked.ensures)
