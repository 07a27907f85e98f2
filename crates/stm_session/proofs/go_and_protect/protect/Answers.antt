use Rattle.stm_wire.proofs.Names.{command, protect_turns, protection_code}
use Rattle.std.proofs.Common.{arith}
use Rattle.stm_session.proofs.Names.{IsOutsideFault}
use Rattle.stm_session.proofs.Leavings.{can_protect, fails_by_line, fails_unread, leaves_broken, leaves_fed, leaves_unread, leaves_unsettled, safe_then, settled_then}
use Rattle.stm_session.proofs.Openings.{on_err, refused_nothing}
use Rattle.stm_session.proofs.Sending.{begun_broken, begun_held, leaves_at_dialogue, leaves_at_journal, leaves_at_settling}
use Rattle.stm_session.proofs.go_and_protect.protect.Goals as goal

pub returns-in_err-check_closed-clause-leaves : goal.returns-in_err-check_closed-clause-leaves
returns-in_err-check_closed-clause-leaves g c h safe none =
    let V = g.R.Rig.view in
    leaves_unread c.harmless_is_kept.ensures.lost (command (protection_code c.args.kind)) _ (V c.args.rig.now) (V c.check_closed.new.rig) safe _ c.from_residual.result (c.in_err-check_closed.ensures.honest h) c.from_residual.ensures.1

pub returns-in_err-settle_safe-clause-leaves : goal.returns-in_err-settle_safe-clause-leaves
returns-in_err-settle_safe-clause-leaves g c h safe none =
    let V = g.R.Rig.view in
    let loads = c.in_ok-check_closed.ensures.honest h in
    let begins = c.in_err-settle_safe.ensures.honest loads.honest (safe_then c.harmless_is_kept.ensures.lost (command (protection_code c.args.kind)) _ (V c.args.rig.now) (V c.check_closed.new.rig) safe loads) in
    leaves_unsettled c.harmless_is_kept.ensures.lost (command (protection_code c.args.kind)) _ (V c.args.rig.now) (V c.check_closed.new.rig) safe loads (V c.settle_safe.new.rig) _ c.from_residual-in_err-settle_safe.result begins c.in_err-settle_safe.ensures.sent c.from_residual-in_err-settle_safe.ensures.1

pub returns-in_err-protect-clause-leaves : goal.returns-in_err-protect-clause-leaves
returns-in_err-protect-clause-leaves g c h safe none =
    let V = g.R.Rig.view in
    let loads = c.in_ok-check_closed.ensures.honest h in
    let begins = c.in_ok-settle_safe.ensures.honest loads.honest (safe_then c.harmless_is_kept.ensures.lost (command (protection_code c.args.kind)) _ (V c.args.rig.now) (V c.check_closed.new.rig) safe loads) in
    leaves_broken c.harmless_is_kept.ensures.lost (command (protection_code c.args.kind)) _ (V c.args.rig.now) (V c.check_closed.new.rig) safe loads (V c.settle_safe.new.rig) begins (V c.protect.new.rig) c.from_residual-in_err-protect.result c.in_err-protect.ensures.broken c.from_residual-in_err-protect.ensures.1

pub returns-clause-leaves : goal.returns-clause-leaves
returns-clause-leaves g c h safe none =
    let V = g.R.Rig.view in
    let loads = c.in_ok-check_closed.ensures.honest h in
    let begins = c.in_ok-settle_safe.ensures.honest loads.honest (safe_then c.harmless_is_kept.ensures.lost (command (protection_code c.args.kind)) _ (V c.args.rig.now) (V c.check_closed.new.rig) safe loads) in
    leaves_fed c.harmless_is_kept.ensures.lost (command (protection_code c.args.kind)) _ (V c.args.rig.now) (V c.check_closed.new.rig) safe loads (V c.settle_safe.new.rig) begins (V c.protect.new.rig) _ c.in_ok-protect.ensures.held

pub returns-in_err-check_closed-clause-protects : goal.returns-in_err-check_closed-clause-protects
returns-in_err-check_closed-clause-protects g c h none can =
    let V = g.R.Rig.view in
    fails_unread _ (V c.args.rig.now) (V c.check_closed.new.rig) _ c.from_residual.result (c.in_err-check_closed.ensures.honest h) none c.from_residual.ensures.1

pub returns-in_err-settle_safe-clause-protects : goal.returns-in_err-settle_safe-clause-protects
returns-in_err-settle_safe-clause-protects g c h none can =
    let V = g.R.Rig.view in
    let loads = c.in_ok-check_closed.ensures.honest h in
    let begins = c.in_err-settle_safe.ensures.honest loads.honest (safe_then c.harmless_is_kept.ensures.lost (command (protection_code c.args.kind)) _ (V c.args.rig.now) (V c.check_closed.new.rig) can.safe loads) in
    on_err IsOutsideFault c.from_residual-in_err-settle_safe.result _ c.from_residual-in_err-settle_safe.ensures.1 begins.fails

pub returns-in_err-protect-clause-protects : goal.returns-in_err-protect-clause-protects
returns-in_err-protect-clause-protects g c h none can =
    let V = g.R.Rig.view in
    let loads = c.in_ok-check_closed.ensures.honest h in
    let begins = c.in_ok-settle_safe.ensures.honest loads.honest (safe_then c.harmless_is_kept.ensures.lost (command (protection_code c.args.kind)) _ (V c.args.rig.now) (V c.check_closed.new.rig) can.safe loads) in
    let does = c.in_err-protect.ensures.honest begins.honest (can_protect c.harmless_is_kept.ensures.lost (command (protection_code c.args.kind)) _ (V c.args.rig.now) (V c.check_closed.new.rig) can.safe loads (V c.settle_safe.new.rig) begins (protection_code c.args.kind) can) in
    fails_by_line _ c.from_residual-in_err-protect.result does c.from_residual-in_err-protect.ensures.1

pub returns-in_err-settle_safe-clause-unsent_calls : goal.returns-in_err-settle_safe-clause-unsent_calls
returns-in_err-settle_safe-clause-unsent_calls g c h fault said =
    refused_nothing _ fault (c.in_ok-check_closed.ensures.honest h).accepted said

pub returns-in_err-protect-clause-unsent_calls : goal.returns-in_err-protect-clause-unsent_calls
returns-in_err-protect-clause-unsent_calls g c h fault said =
    refused_nothing _ fault (c.in_ok-check_closed.ensures.honest h).accepted said

pub returns-clause-unsent_calls : goal.returns-clause-unsent_calls
returns-clause-unsent_calls g c h fault said =
    refused_nothing _ fault (c.in_ok-check_closed.ensures.honest h).accepted said

pub returns-clause-sent : goal.returns-clause-sent
returns-clause-sent g c =
    let V = g.R.Rig.view in
    settled_then (protect_turns (protection_code c.args.kind)) (V c.args.rig.now).calls (V c.check_closed.new.rig).calls (V c.settle_safe.new.rig).calls (V c.protect.new.rig).calls
    c.in_ok-check_closed.ensures.calls c.in_ok-settle_safe.ensures.calls c.in_ok-settle_safe.ensures.settled c.in_ok-protect.ensures.held.recorded

pub returns-in_err-check_closed-clause-puts : goal.returns-in_err-check_closed-clause-puts
returns-in_err-check_closed-clause-puts g c =
    let V = g.R.Rig.view in
    leaves_at_journal (protect_turns (protection_code c.args.kind)) (V c.args.rig.now).calls (V c.check_closed.new.rig).calls (omega arith) c.check_closed.ensures.calls

pub returns-in_err-settle_safe-clause-puts : goal.returns-in_err-settle_safe-clause-puts
returns-in_err-settle_safe-clause-puts g c =
    let V = g.R.Rig.view in
    leaves_at_settling (protect_turns (protection_code c.args.kind)) (V c.args.rig.now).calls (V c.check_closed.new.rig).calls (V c.settle_safe.new.rig).calls (omega arith) c.check_closed.ensures.calls c.settle_safe.ensures.calls

pub returns-in_err-protect-clause-puts : goal.returns-in_err-protect-clause-puts
returns-in_err-protect-clause-puts g c =
    let V = g.R.Rig.view in
    leaves_at_dialogue (protect_turns (protection_code c.args.kind)) (V c.args.rig.now).calls (V c.check_closed.new.rig).calls (V c.settle_safe.new.rig).calls (V c.protect.new.rig).calls (omega arith)
    c.check_closed.ensures.calls c.settle_safe.ensures.calls (begun_broken (protect_turns (protection_code c.args.kind)) _ (V c.settle_safe.new.rig).calls (V c.protect.new.rig).calls c.in_err-protect.ensures.broken.recorded)

pub returns-clause-puts : goal.returns-clause-puts
returns-clause-puts g c =
    let V = g.R.Rig.view in
    leaves_at_dialogue (protect_turns (protection_code c.args.kind)) (V c.args.rig.now).calls (V c.check_closed.new.rig).calls (V c.settle_safe.new.rig).calls (V c.protect.new.rig).calls (omega arith)
    c.check_closed.ensures.calls c.settle_safe.ensures.calls (begun_held (protect_turns (protection_code c.args.kind)) (V c.settle_safe.new.rig).calls (V c.protect.new.rig).calls c.in_ok-protect.ensures.held.recorded)
