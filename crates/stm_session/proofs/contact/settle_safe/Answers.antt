use Rattle.std.proofs.Common.{[], arith}
use Rattle.stm_session.proofs.Unbegun.{settled_safely, stopped_safely}
use Rattle.stm_session.proofs.contact.settle_safe.Goals as goal

pub returns-in_err-settle-clause-honest : goal.returns-in_err-settle-clause-honest
returns-in_err-settle-clause-honest g c h safe =
    let V = g.R.Rig.view in
    let settles = c.in_err-settle.ensures.honest h (omega arith) [] safe.harmless safe.owed in
    stopped_safely c.pages_are_the_flash.ensures.same (V c.args.rig.now) (V c.settle.new.rig) c.from_residual.result _ c.in_err-settle.field-0.0
    (g.met.R.Rig.model c.args.rig.now h) (g.met.R.Rig.model c.settle.new.rig settles.keeps.honest) settles.keeps settles.fails c.from_residual.ensures.1

pub returns-clause-honest : goal.returns-clause-honest
returns-clause-honest g c h safe =
    let V = g.R.Rig.view in
    let settles = c.in_ok-settle.ensures.honest h (omega arith) [] safe.harmless safe.owed in
    settled_safely c.pages_are_the_flash.ensures.same (V c.args.rig.now) (V c.settle.new.rig) tt _
    (g.met.R.Rig.model c.args.rig.now h) (g.met.R.Rig.model c.settle.new.rig settles.keeps.honest) settles.keeps settles.ok tt
