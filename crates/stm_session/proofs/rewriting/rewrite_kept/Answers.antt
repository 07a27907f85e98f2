use Rattle.std.proofs.Common.{refl, ◌∙◌}
use Rattle.stm_session.proofs.Performing.{performs_refused}
use Rattle.stm_session.proofs.Rewritings.{plan_done, plan_may, plan_performs}
use Rattle.stm_session.proofs.rewriting.rewrite_kept.Goals as goal

pub returns-in_err-deeds-clause-performs : goal.returns-in_err-deeds-clause-performs
returns-in_err-deeds-clause-performs g c =
    performs_refused c.step_laws.ensures (g.met.R.Rig.model c.args.rig.now) _
    c.from_residual.ensures.1 (_, refl)

pub perform-requires : goal.perform-requires
perform-requires g c =
    let is = c.deref.ensures.value ∙ c.in_ok-deeds.ensures in
    plan_may c.args.chip.now _ c.args.page _ c.args.frames.now _ is _ c.requires.exists
    c.requires.size c.requires.frames c.requires.may c.requires.kept

pub returns-clause-done : goal.returns-clause-done
returns-clause-done g c =
    let is = c.deref.ensures.value ∙ c.in_ok-deeds.ensures in
    plan_done c.args.chip.now _ c.args.page _ c.args.frames.now _ is _ _ _ c.perform.ensures.done

pub returns-clause-performs : goal.returns-clause-performs
returns-clause-performs g c =
    let is = c.deref.ensures.value ∙ c.in_ok-deeds.ensures in
    plan_performs c.args.chip.now _ c.args.page _ c.args.frames.now _ is c.requires.exists
    c.requires.size c.requires.frames c.requires.gives (g.met.R.Rig.model c.args.rig.now)
    c.perform.ensures.does
