use Rattle.stm_session.proofs.Names.{IsReset, IsSafe, unprotect_turns}
use Rattle.stm_session.proofs.Sending.{begun_broken, begun_held}
use Rattle.stm_session.proofs.Unprotections.{broken, reset_is_ready, unconnected, unprotected_then, unprotects_at_connecting, unprotects_at_dialogue, unprotects_at_journal, unread, whole}
use Rattle.stm_session.proofs.unprotecting.unprotect_fresh.Goals as goal

pub returns-in_err-check_good-clause-promised : goal.returns-in_err-check_good-clause-promised
returns-in_err-check_good-clause-promised g c =
    let V = g.R.Rig.view in
    let a = V c.args.rig.now in
    let safely : a.is_honest → IsReset a.device → IsSafe a.device = λ h is. c.a_ready_device_can_begin.ensures.safe a.device (g.met.R.Rig.model c.args.rig.now h).device (reset_is_ready a.device is) in
    let said = c.in_err-check_good.ensures in
    unread c.harmless_is_kept.ensures.lost a safely (V c.check_good.new.rig) _ c.from_residual.result c.check_good.ensures.calls said.honest said.memory c.from_residual.ensures.1

pub returns-in_err-connect_fresh-clause-promised : goal.returns-in_err-connect_fresh-clause-promised
returns-in_err-connect_fresh-clause-promised g c =
    let V = g.R.Rig.view in
    let a = V c.args.rig.now in
    let safely : a.is_honest → IsReset a.device → IsSafe a.device = λ h is. c.a_ready_device_can_begin.ensures.safe a.device (g.met.R.Rig.model c.args.rig.now h).device (reset_is_ready a.device is) in
    let said = c.in_err-connect_fresh.ensures in
    unconnected c.harmless_is_kept.ensures.lost a safely (V c.check_good.new.rig) c.in_ok-check_good.ensures.honest (V c.connect_fresh.new.rig) _ c.from_residual-in_err-connect_fresh.result said.honest said.sent
    c.from_residual-in_err-connect_fresh.ensures.1

pub returns-in_err-protect-clause-promised : goal.returns-in_err-protect-clause-promised
returns-in_err-protect-clause-promised g c =
    let V = g.R.Rig.view in
    let a = V c.args.rig.now in
    let safely : a.is_honest → IsReset a.device → IsSafe a.device = λ h is. c.a_ready_device_can_begin.ensures.safe a.device (g.met.R.Rig.model c.args.rig.now h).device (reset_is_ready a.device is) in
    let said = c.in_err-protect.ensures in
    broken c.harmless_is_kept.ensures.lost a safely (V c.check_good.new.rig) c.in_ok-check_good.ensures.honest (V c.connect_fresh.new.rig) c.in_ok-connect_fresh.ensures.honest (V c.protect.new.rig) _
    c.from_residual-in_err-protect.result said.broken said.honest c.from_residual-in_err-protect.ensures.1

pub returns-clause-promised : goal.returns-clause-promised
returns-clause-promised g c =
    let V = g.R.Rig.view in
    let a = V c.args.rig.now in
    let safely : a.is_honest → IsReset a.device → IsSafe a.device = λ h is. c.a_ready_device_can_begin.ensures.safe a.device (g.met.R.Rig.model c.args.rig.now h).device (reset_is_ready a.device is) in
    whole c.harmless_is_kept.ensures.lost a safely (V c.check_good.new.rig) c.in_ok-check_good.ensures.honest (V c.connect_fresh.new.rig) c.in_ok-connect_fresh.ensures.honest (V c.protect.new.rig) _ c.in_ok-protect.ensures.held

pub returns-clause-sent : goal.returns-clause-sent
returns-clause-sent g c =
    let V = g.R.Rig.view in
    unprotected_then (V c.args.rig.now).calls (V c.check_good.new.rig).calls (V c.connect_fresh.new.rig).calls (V c.protect.new.rig).calls c.in_ok-check_good.ensures.calls c.in_ok-connect_fresh.ensures.connected c.in_ok-protect.ensures.held.recorded

pub returns-in_err-check_good-clause-puts : goal.returns-in_err-check_good-clause-puts
returns-in_err-check_good-clause-puts g c =
    let V = g.R.Rig.view in
    unprotects_at_journal (V c.args.rig.now).calls (V c.check_good.new.rig).calls c.check_good.ensures.calls

pub returns-in_err-connect_fresh-clause-puts : goal.returns-in_err-connect_fresh-clause-puts
returns-in_err-connect_fresh-clause-puts g c =
    let V = g.R.Rig.view in
    unprotects_at_connecting (V c.args.rig.now).calls (V c.check_good.new.rig).calls (V c.connect_fresh.new.rig).calls c.check_good.ensures.calls c.connect_fresh.ensures.calls

pub returns-in_err-protect-clause-puts : goal.returns-in_err-protect-clause-puts
returns-in_err-protect-clause-puts g c =
    let V = g.R.Rig.view in
    unprotects_at_dialogue (V c.args.rig.now).calls (V c.check_good.new.rig).calls (V c.connect_fresh.new.rig).calls (V c.protect.new.rig).calls c.check_good.ensures.calls c.connect_fresh.ensures.calls c.in_ok-connect_fresh.ensures.connected
    (begun_broken unprotect_turns _ (V c.connect_fresh.new.rig).calls (V c.protect.new.rig).calls c.in_err-protect.ensures.broken.recorded)

pub returns-clause-puts : goal.returns-clause-puts
returns-clause-puts g c =
    let V = g.R.Rig.view in
    unprotects_at_dialogue (V c.args.rig.now).calls (V c.check_good.new.rig).calls (V c.connect_fresh.new.rig).calls (V c.protect.new.rig).calls c.check_good.ensures.calls c.connect_fresh.ensures.calls c.in_ok-connect_fresh.ensures.connected
    (begun_held unprotect_turns (V c.connect_fresh.new.rig).calls (V c.protect.new.rig).calls c.in_ok-protect.ensures.held.recorded)
