use Rattle.stm_session.proofs.Names.{asking_steps, Begin, Cause, cause_of, contact_way, is_whole, IsAsking, most_of_reaching, ReachesInPart, StopsBy}
use Rattle.stm_session.proofs.Unwritings.{settling_appends_nothing, then_appends_nothing}
use Rattle.stm_session.proofs.Unbegun.{begins_failed, then_asks}
use Rattle.stm_session.proofs.Openings.{tells_first}
use Rattle.std.proofs.Common.{◌+◌, ◌*◌, arith, None, true, false}
use Rattle.stm_wire.specs.lemmas.PartLaws.{session_joins, session_longer, settling_is_session}
use Rattle.stm_session.proofs.Orders.{settles_then}
use Rattle.stm_wire.proofs.Names.{GoesOn}
use Rattle.stm_session.proofs.AskingStops.{ask_puts}
use Rattle.stm_session.proofs.CutShort.{by_fault}
use Rattle.stm_session.proofs.Reaching.{asks_stop, err_then, settle_stops, told_then}
use Rattle.stm_session.proofs.opening.reach.Goals as goal

pub returns-in_err-settle_safe-clause-honest : goal.returns-in_err-settle_safe-clause-honest
returns-in_err-settle_safe-clause-honest g c h safe =
    let V = g.R.Rig.view in
    begins_failed (V c.args.rig.now) (V c.settle_safe.new.rig) _ c.from_residual.result (c.in_err-settle_safe.ensures.honest h safe) c.from_residual.ensures.1

pub returns-clause-honest : goal.returns-clause-honest
returns-clause-honest g c h safe =
    let V = g.R.Rig.view in
    let first = c.in_ok-settle_safe.ensures.honest h safe in
    then_asks (V c.args.rig.now) (V c.settle_safe.new.rig) (V c.ask.new.rig) _ c.ask.result first (c.ask.ensures.honest first.honest first.settled)
    (tells_first (V c.args.rig.now) (V c.settle_safe.new.rig) first.left)

pub returns-in_err-settle_safe-clause-puts : goal.returns-in_err-settle_safe-clause-puts
returns-in_err-settle_safe-clause-puts g c =
    let V = g.R.Rig.view in
    let a = (V c.args.rig.now).calls in
    let b = (V c.settle_safe.new.rig).calls in
    let whole = is_whole c.from_residual.result in
    session_longer None 0x7F 131072 whole (4100 * (131072 + 4)) (most_of_reaching 131072) a b (omega arith) (settling_is_session None 0x7F 131072 whole (4100 * (131072 + 4)) a b c.settle_safe.ensures.calls)

pub returns-clause-puts : goal.returns-clause-puts
returns-clause-puts g c =
    let V = g.R.Rig.view in
    let a = (V c.args.rig.now).calls in
    let b = (V c.settle_safe.new.rig).calls in
    let d = (V c.ask.new.rig).calls in
    session_joins None 0x7F 131072 (is_whole c.ask.result) (4100 * (131072 + 4)) 268 a b d (settling_is_session None 0x7F 131072 true (4100 * (131072 + 4)) a b c.settle_safe.ensures.calls)
    (ask_puts c.ask.result (λ told. told.id) (V c.settle_safe.new.rig) (V c.ask.new.rig)
    (c.ask.ensures.order false) (c.ask.ensures.stops false))

pub returns-clause-order : goal.returns-clause-order
returns-clause-order g c torn =
    let V = g.R.Rig.view in
    let a = (V c.args.rig.now).calls in
    let b = (V c.settle_safe.new.rig).calls in
    let d = (V c.ask.new.rig).calls in
    told_then c.ask.result _ _ (λ told asks. (asks.0, asks.1, settles_then contact_way torn (asking_steps asks.0 asks.1 told.id) a b d c.settle_safe.ensures.calls c.in_ok-settle_safe.ensures.settled asks.2, asks.3)) (c.ask.ensures.order torn)

pub returns-in_err-settle_safe-clause-stops : goal.returns-in_err-settle_safe-clause-stops
returns-in_err-settle_safe-clause-stops g c torn =
    let V = g.R.Rig.view in
    let a = (V c.args.rig.now).calls in
    let b = (V c.settle_safe.new.rig).calls in
    by_fault (λ (k : Cause). GoesOn (ReachesInPart contact_way k torn) a b) _ c.from_residual.result c.from_residual.ensures.1 (settle_stops contact_way _ torn a b c.in_err-settle_safe.ensures.sent c.settle_safe.ensures.calls)

pub returns-clause-stops : goal.returns-clause-stops
returns-clause-stops g c torn =
    let V = g.R.Rig.view in
    let a = V c.args.rig.now in
    let b = V c.settle_safe.new.rig in
    let d = V c.ask.new.rig in
    err_then c.ask.result (λ e. StopsBy (Begin IsAsking) (cause_of e) torn b d) (λ e. GoesOn (ReachesInPart contact_way (cause_of e) torn) a.calls d.calls)
    (λ e stops. asks_stop contact_way (cause_of e) torn a b d c.settle_safe.ensures.calls c.in_ok-settle_safe.ensures.settled stops) (c.ask.ensures.stops torn)

pub returns-in_err-settle_safe-clause-unwritten : goal.returns-in_err-settle_safe-clause-unwritten
returns-in_err-settle_safe-clause-unwritten g c =
    let V = g.R.Rig.view in
    settling_appends_nothing 0x7F 131072 (V c.args.rig.now).calls (V c.settle_safe.new.rig).calls c.settle_safe.ensures.calls

pub returns-clause-unwritten : goal.returns-clause-unwritten
returns-clause-unwritten g c =
    let V = g.R.Rig.view in
    let a = (V c.args.rig.now).calls in
    let b = (V c.settle_safe.new.rig).calls in
    then_appends_nothing a b (V c.ask.new.rig).calls (settling_appends_nothing 0x7F 131072 a b c.settle_safe.ensures.calls) c.ask.ensures.unwritten
