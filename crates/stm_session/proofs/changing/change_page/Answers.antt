use Rattle.std.proofs.Common.{◌∙◌, refl, rules}
use Rattle.stm_session.proofs.ChangeOrders.{some_changed}
use Rattle.stm_session.proofs.Changes.{performs_same, planned}
use Rattle.stm_session.proofs.Firsts.{change_cut, change_out, change_past, first_may}
use Rattle.stm_session.proofs.Performing.{performs_refused}
use Rattle.stm_session.proofs.changing.change_page.Goals as goal

pub returns-in_default-clause-performs : goal.returns-in_default-clause-performs
returns-in_default-clause-performs g c =
    performs_refused c.step_laws.ensures (g.met.R.Rig.model c.args.rig.now) _ refl
    (some_changed c.args.kept c.args.chip.now c.args.n c.args.held.now c.args.page.now)

pub returns-in-Same-clause-performs : goal.returns-in-Same-clause-performs
returns-in-Same-clause-performs g c =
    performs_same c.step_laws.ensures c.args.kept c.args.chip.now c.args.n
    (g.met.R.Rig.model c.args.rig.now) (search rules)

pub returns-in_err-came-in-Erase-clause-performs : goal.returns-in_err-came-in-Erase-clause-performs
returns-in_err-came-in-Erase-clause-performs g c =
    change_cut c.args.kept _ c.args.chip.now c.args.n c.args.held c.is_due-due.ensures
    (c.in_err-came-in-Erase.ensures.reads c.args.journal.now) c.from_residual.ensures.1
    (planned c.args.chip.now c.in-Erase.is c.in-Ok.ensures.plan c.erased.ensures.byte)

pub rewrite_kept-requires-clause-may : goal.rewrite_kept-requires-clause-may
rewrite_kept-requires-clause-may g c =
    first_may c.args.chip.now c.args.n c.as_slice-other.result c.args.held c.args.kept _ _
    c.is_due-due.ensures c.left_out.ensures _ c.requires.exists c.requires.held (search rules)
    (search rules) (λ t. c.as_slice-other.ensures.len
    ∙ (c.in_ok-came-in-Erase.ensures.reads c.args.journal.now).size t) c.requires.may
    c.requires.companion

pub returns-in_err-rewrite_kept-in-Erase-clause-performs : goal.returns-in_err-rewrite_kept-in-Erase-clause-performs
returns-in_err-rewrite_kept-in-Erase-clause-performs g c =
    change_out c.args.chip.now c.args.n c.as_slice-other.result c.args.held c.args.kept _ _
    c.is_due-due.ensures c.left_out.ensures c.args.page.now c.deref.result.now
    (c.in_ok-came-in-Erase.ensures.reads c.args.journal.now) c.as_slice-other.ensures.value
    c.as_slice-other.ensures.len c.rewrite_kept.ensures.performs
    (g.met.R.Rig.model c.read_companion.new.rig) c.in-Erase.is c.in-Ok.ensures.plan
    c.erased.ensures.byte c.deref.ensures.value c.in_err-rewrite_kept-in-Erase.was
    c.from_residual-in_err-rewrite_kept-in-Erase.ensures.1

pub returns-in_ok-rewrite_kept-in-Erase-clause-performs : goal.returns-in_ok-rewrite_kept-in-Erase-clause-performs
returns-in_ok-rewrite_kept-in-Erase-clause-performs g c =
    change_past c.args.chip.now c.args.n c.as_slice-other.result c.args.held c.args.kept _ _
    c.is_due-due.ensures c.left_out.ensures c.args.page.now c.deref.result.now
    (c.in_ok-came-in-Erase.ensures.reads c.args.journal.now) c.as_slice-other.ensures.value
    c.as_slice-other.ensures.len c.rewrite_kept.ensures.performs
    (g.met.R.Rig.model c.read_companion.new.rig) c.in-Erase.is c.in-Ok.ensures.plan
    c.erased.ensures.byte c.deref.ensures.value c.in_ok-rewrite_kept-in-Erase.was
