use Rattle.stm_wire.proofs.Names.{go_frame, go_turns}
use Rattle.std.proofs.Common.{arith}
use Rattle.stm_session.proofs.Names.{IsOutsideFault}
use Rattle.stm_session.proofs.Leavings.{can_go, fails_by_line, fails_unread, leaves_broken, leaves_fed, leaves_unread, leaves_unsettled, safe_then, settled_then}
use Rattle.stm_session.proofs.Openings.{on_err, refused_nothing}
use Rattle.stm_session.proofs.Sending.{begun_broken, begun_held, leaves_at_dialogue, leaves_at_journal, leaves_at_settling}
use Rattle.stm_session.proofs.go_and_protect.go.Goals as goal

pub returns-in_err-check_closed-clause-leaves : goal.returns-in_err-check_closed-clause-leaves
returns-in_err-check_closed-clause-leaves g c h safe none =
    let V = g.R.Rig.view in
    leaves_unread c.harmless_is_kept.ensures.lost (go_frame c.args.address) _ (V c.args.rig.now) (V c.check_closed.new.rig) safe _ c.from_residual.result (c.in_err-check_closed.ensures.honest h) c.from_residual.ensures.1

pub returns-in_err-settle_safe-clause-leaves : goal.returns-in_err-settle_safe-clause-leaves
returns-in_err-settle_safe-clause-leaves g c h safe none =
    let V = g.R.Rig.view in
    let loads = c.in_ok-check_closed.ensures.honest h in
    let begins = c.in_err-settle_safe.ensures.honest loads.honest (safe_then c.harmless_is_kept.ensures.lost (go_frame c.args.address) _ (V c.args.rig.now) (V c.check_closed.new.rig) safe loads) in
    leaves_unsettled c.harmless_is_kept.ensures.lost (go_frame c.args.address) _ (V c.args.rig.now) (V c.check_closed.new.rig) safe loads (V c.settle_safe.new.rig) _ c.from_residual-in_err-settle_safe.result begins c.in_err-settle_safe.ensures.sent c.from_residual-in_err-settle_safe.ensures.1

pub returns-in_err-go-clause-leaves : goal.returns-in_err-go-clause-leaves
returns-in_err-go-clause-leaves g c h safe none =
    let V = g.R.Rig.view in
    let loads = c.in_ok-check_closed.ensures.honest h in
    let begins = c.in_ok-settle_safe.ensures.honest loads.honest (safe_then c.harmless_is_kept.ensures.lost (go_frame c.args.address) _ (V c.args.rig.now) (V c.check_closed.new.rig) safe loads) in
    leaves_broken c.harmless_is_kept.ensures.lost (go_frame c.args.address) _ (V c.args.rig.now) (V c.check_closed.new.rig) safe loads (V c.settle_safe.new.rig) begins (V c.go.new.rig) c.from_residual-in_err-go.result c.in_err-go.ensures.broken c.from_residual-in_err-go.ensures.1

pub returns-clause-leaves : goal.returns-clause-leaves
returns-clause-leaves g c h safe none =
    let V = g.R.Rig.view in
    let loads = c.in_ok-check_closed.ensures.honest h in
    let begins = c.in_ok-settle_safe.ensures.honest loads.honest (safe_then c.harmless_is_kept.ensures.lost (go_frame c.args.address) _ (V c.args.rig.now) (V c.check_closed.new.rig) safe loads) in
    leaves_fed c.harmless_is_kept.ensures.lost (go_frame c.args.address) _ (V c.args.rig.now) (V c.check_closed.new.rig) safe loads (V c.settle_safe.new.rig) begins (V c.go.new.rig) _ c.in_ok-go.ensures.held

pub returns-in_err-check_closed-clause-goes : goal.returns-in_err-check_closed-clause-goes
returns-in_err-check_closed-clause-goes g c h none can inside =
    let V = g.R.Rig.view in
    fails_unread _ (V c.args.rig.now) (V c.check_closed.new.rig) _ c.from_residual.result (c.in_err-check_closed.ensures.honest h) none c.from_residual.ensures.1

pub returns-in_err-settle_safe-clause-goes : goal.returns-in_err-settle_safe-clause-goes
returns-in_err-settle_safe-clause-goes g c h none can inside =
    let V = g.R.Rig.view in
    let loads = c.in_ok-check_closed.ensures.honest h in
    let begins = c.in_err-settle_safe.ensures.honest loads.honest (safe_then c.harmless_is_kept.ensures.lost (go_frame c.args.address) _ (V c.args.rig.now) (V c.check_closed.new.rig) can.safe loads) in
    on_err IsOutsideFault c.from_residual-in_err-settle_safe.result _ c.from_residual-in_err-settle_safe.ensures.1 begins.fails

pub returns-in_err-go-clause-goes : goal.returns-in_err-go-clause-goes
returns-in_err-go-clause-goes g c h none can inside =
    let V = g.R.Rig.view in
    let loads = c.in_ok-check_closed.ensures.honest h in
    let begins = c.in_ok-settle_safe.ensures.honest loads.honest (safe_then c.harmless_is_kept.ensures.lost (go_frame c.args.address) _ (V c.args.rig.now) (V c.check_closed.new.rig) can.safe loads) in
    let does = c.in_err-go.ensures.honest begins.honest (can_go c.harmless_is_kept.ensures.lost (go_frame c.args.address) _ (V c.args.rig.now) (V c.check_closed.new.rig) can.safe loads (V c.settle_safe.new.rig) begins c.args.address can inside) in
    fails_by_line _ c.from_residual-in_err-go.result does.fails c.from_residual-in_err-go.ensures.1

pub returns-in_err-settle_safe-clause-unsent_calls : goal.returns-in_err-settle_safe-clause-unsent_calls
returns-in_err-settle_safe-clause-unsent_calls g c h fault said =
    refused_nothing _ fault (c.in_ok-check_closed.ensures.honest h).accepted said

pub returns-in_err-go-clause-unsent_calls : goal.returns-in_err-go-clause-unsent_calls
returns-in_err-go-clause-unsent_calls g c h fault said =
    refused_nothing _ fault (c.in_ok-check_closed.ensures.honest h).accepted said

pub returns-clause-unsent_calls : goal.returns-clause-unsent_calls
returns-clause-unsent_calls g c h fault said =
    refused_nothing _ fault (c.in_ok-check_closed.ensures.honest h).accepted said

pub returns-clause-sent : goal.returns-clause-sent
returns-clause-sent g c =
    let V = g.R.Rig.view in
    settled_then (go_turns c.args.address) (V c.args.rig.now).calls (V c.check_closed.new.rig).calls (V c.settle_safe.new.rig).calls (V c.go.new.rig).calls
    c.in_ok-check_closed.ensures.calls c.in_ok-settle_safe.ensures.calls c.in_ok-settle_safe.ensures.settled c.in_ok-go.ensures.held.recorded

pub returns-in_err-check_closed-clause-puts : goal.returns-in_err-check_closed-clause-puts
returns-in_err-check_closed-clause-puts g c =
    let V = g.R.Rig.view in
    leaves_at_journal (go_turns c.args.address) (V c.args.rig.now).calls (V c.check_closed.new.rig).calls (omega arith) c.check_closed.ensures.calls

pub returns-in_err-settle_safe-clause-puts : goal.returns-in_err-settle_safe-clause-puts
returns-in_err-settle_safe-clause-puts g c =
    let V = g.R.Rig.view in
    leaves_at_settling (go_turns c.args.address) (V c.args.rig.now).calls (V c.check_closed.new.rig).calls (V c.settle_safe.new.rig).calls (omega arith) c.check_closed.ensures.calls c.settle_safe.ensures.calls

pub returns-in_err-go-clause-puts : goal.returns-in_err-go-clause-puts
returns-in_err-go-clause-puts g c =
    let V = g.R.Rig.view in
    leaves_at_dialogue (go_turns c.args.address) (V c.args.rig.now).calls (V c.check_closed.new.rig).calls (V c.settle_safe.new.rig).calls (V c.go.new.rig).calls (omega arith)
    c.check_closed.ensures.calls c.settle_safe.ensures.calls (begun_broken (go_turns c.args.address) _ (V c.settle_safe.new.rig).calls (V c.go.new.rig).calls c.in_err-go.ensures.broken.recorded)

pub returns-clause-puts : goal.returns-clause-puts
returns-clause-puts g c =
    let V = g.R.Rig.view in
    leaves_at_dialogue (go_turns c.args.address) (V c.args.rig.now).calls (V c.check_closed.new.rig).calls (V c.settle_safe.new.rig).calls (V c.go.new.rig).calls (omega arith)
    c.check_closed.ensures.calls c.settle_safe.ensures.calls (begun_held (go_turns c.args.address) (V c.settle_safe.new.rig).calls (V c.go.new.rig).calls c.in_ok-go.ensures.held.recorded)
