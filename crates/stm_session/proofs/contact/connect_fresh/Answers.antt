use Rattle.std.proofs.Common.{[]}
use Rattle.stm_session.proofs.Freshness.{connected_is_settled, settling_starts}
use Rattle.stm_session.proofs.Unbegun.{settled_safely, stopped_safely}
use Rattle.stm_session.proofs.Unprotections.{reset_is_ready}
use Rattle.stm_session.proofs.contact.connect_fresh.Goals as goal

pub returns-in_err-connect-clause-honest : goal.returns-in_err-connect-clause-honest
returns-in_err-connect-clause-honest g c h is =
    let V = g.R.Rig.view in
    let a = V c.args.rig.now in
    let model = g.met.R.Rig.model c.args.rig.now h in
    let safe = c.a_ready_device_can_begin.ensures.safe a.device model.device (reset_is_ready a.device is) in
    let leads = c.in_err-connect.ensures.honest h 0x7F [] a.device (settling_starts 0x7F [] a.device safe.harmless safe.owed) is.phase is.owed in
    stopped_safely c.pages_are_the_flash.ensures.same a (V c.connect.new.rig) c.from_residual.result _ c.in_err-connect.field-0.0
    model (g.met.R.Rig.model c.connect.new.rig leads.keeps.honest) leads.keeps leads.fails c.from_residual.ensures.1

pub returns-clause-honest : goal.returns-clause-honest
returns-clause-honest g c h is =
    let V = g.R.Rig.view in
    let a = V c.args.rig.now in
    let b = V c.connect.new.rig in
    let model = g.met.R.Rig.model c.args.rig.now h in
    let safe = c.a_ready_device_can_begin.ensures.safe a.device model.device (reset_is_ready a.device is) in
    let leads = c.in_ok-connect.ensures.honest h 0x7F [] a.device (settling_starts 0x7F [] a.device safe.harmless safe.owed) is.phase is.owed in
    settled_safely c.pages_are_the_flash.ensures.same a b tt _
    model (g.met.R.Rig.model c.connect.new.rig leads.keeps.honest) leads.keeps (connected_is_settled a.device b.device leads.ok) tt
