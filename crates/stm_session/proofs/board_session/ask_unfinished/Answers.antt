use Rattle.std.proofs.Common.{◌≡◌, [], arith, subst}
use Rattle.stm_wire.proofs.Names.{ChipData, GoesOn}
use Rattle.stm_journal.proofs.Names.{intent_of}
use Rattle.stm_session.proofs.Names.{AsksBoard, AsksInPart, Begin, byte_of, Cause, cause_of, IsBoardOf, limit_of, settling_way, StopsBy}
use Rattle.stm_session.proofs.AskingBoards.{few_more, few_then, goes_asked, limit_small, part_asked, part_settled, settle_few}
use Rattle.stm_session.proofs.CutShort.{by_fault}
use Rattle.stm_session.proofs.Going.{at_exit, goes_failed, goes_then}
use Rattle.stm_session.proofs.Orders.{settles_then}
use Rattle.stm_session.proofs.Reaching.{err_then, told_then}
use Rattle.stm_session.proofs.Unwritings.{settling_appends_nothing, then_appends_nothing}
use Rattle.stm_session.proofs.board_session.ask_unfinished.Goals as goal

pub returns-in_err-settle_intended-clause-unwritten : goal.returns-in_err-settle_intended-clause-unwritten
returns-in_err-settle_intended-clause-unwritten g c =
    let V = g.R.Rig.view in
    let way = settling_way c.args.chip.now.kind c.args.journal.now.is_greeted (intent_of c.args.journal.now.state) in
    let a = V c.args.rig.now in
    let b = V c.settle_intended.new.rig in
    settling_appends_nothing (byte_of way) (limit_of way) a.calls b.calls c.settle_intended.ensures.calls

pub returns-in_err-settle_intended-clause-few : goal.returns-in_err-settle_intended-clause-few
returns-in_err-settle_intended-clause-few g c =
    let V = g.R.Rig.view in
    let way = settling_way c.args.chip.now.kind c.args.journal.now.is_greeted (intent_of c.args.journal.now.state) in
    let a = V c.args.rig.now in
    let b = V c.settle_intended.new.rig in
    few_more 537411600 537411926 a.calls b.calls (omega arith) (settle_few (byte_of way) (limit_of way) a.calls b.calls (limit_small c.args.chip.now.kind c.args.journal.now.is_greeted (intent_of c.args.journal.now.state)) c.settle_intended.ensures.calls)

pub returns-in_err-settle_intended-clause-stops : goal.returns-in_err-settle_intended-clause-stops
returns-in_err-settle_intended-clause-stops g c torn =
    let V = g.R.Rig.view in
    let way = settling_way c.args.chip.now.kind c.args.journal.now.is_greeted (intent_of c.args.journal.now.state) in
    let a = V c.args.rig.now in
    let b = V c.settle_intended.new.rig in
    by_fault (λ (k : Cause). GoesOn (AsksInPart c.args.table.now way k torn) a.calls b.calls) _ c.from_residual.result c.from_residual.ensures.1
    (part_settled c.args.table.now way _ torn a.calls b.calls c.in_err-settle_intended.ensures.sent c.settle_intended.ensures.calls)

pub returns-clause-unwritten : goal.returns-clause-unwritten
returns-clause-unwritten g c =
    let V = g.R.Rig.view in
    let way = settling_way c.args.chip.now.kind c.args.journal.now.is_greeted (intent_of c.args.journal.now.state) in
    let a = V c.args.rig.now in
    let b = V c.settle_intended.new.rig in
    let d = V c.ask_settled.new.rig in
    then_appends_nothing a.calls b.calls d.calls (settling_appends_nothing (byte_of way) (limit_of way) a.calls b.calls c.settle_intended.ensures.calls) c.ask_settled.ensures.unwritten

pub returns-clause-few : goal.returns-clause-few
returns-clause-few g c =
    let V = g.R.Rig.view in
    let way = settling_way c.args.chip.now.kind c.args.journal.now.is_greeted (intent_of c.args.journal.now.state) in
    let a = V c.args.rig.now in
    let b = V c.settle_intended.new.rig in
    let d = V c.ask_settled.new.rig in
    few_then 537411600 326 a.calls b.calls d.calls (settle_few (byte_of way) (limit_of way) a.calls b.calls (limit_small c.args.chip.now.kind c.args.journal.now.is_greeted (intent_of c.args.journal.now.state)) c.settle_intended.ensures.calls) c.ask_settled.ensures.few

pub returns-clause-order : goal.returns-clause-order
returns-clause-order g c torn =
    let V = g.R.Rig.view in
    let way = settling_way c.args.chip.now.kind c.args.journal.now.is_greeted (intent_of c.args.journal.now.state) in
    let a = V c.args.rig.now in
    let b = V c.settle_intended.new.rig in
    let d = V c.ask_settled.new.rig in
    told_then c.ask_settled.result _ _
    (λ board asks. (asks.0, asks.1, settles_then way torn asks.0 a.calls b.calls d.calls c.settle_intended.ensures.calls c.in_ok-settle_intended.ensures.settled asks.2))
    (c.ask_settled.ensures.order torn)

pub returns-clause-stops : goal.returns-clause-stops
returns-clause-stops g c torn =
    let V = g.R.Rig.view in
    let way = settling_way c.args.chip.now.kind c.args.journal.now.is_greeted (intent_of c.args.journal.now.state) in
    let a = V c.args.rig.now in
    let b = V c.settle_intended.new.rig in
    let d = V c.ask_settled.new.rig in
    err_then c.ask_settled.result (λ e. StopsBy (Begin (AsksBoard c.args.table.now)) (cause_of e) torn b d) (λ e. GoesOn (AsksInPart c.args.table.now way (cause_of e) torn) a.calls d.calls)
    (λ e stops. part_asked c.args.table.now way (cause_of e) torn a b d c.settle_intended.ensures.calls c.in_ok-settle_intended.ensures.settled stops) (c.ask_settled.ensures.stops torn)

pub returns-in_err-settle_intended-clause-honest : goal.returns-in_err-settle_intended-clause-honest
returns-in_err-settle_intended-clause-honest g c h flashes loaded undoable chip =
    let V = g.R.Rig.view in
    let a = V c.args.rig.now in
    let b = V c.settle_intended.new.rig in
    let l = c.args.journal.now in
    goes_failed flashes [] [] l l a b _ c.from_residual.result (c.in_err-settle_intended.ensures.honest h flashes loaded undoable chip) c.from_residual.ensures.1

pub returns-clause-honest : goal.returns-clause-honest
returns-clause-honest g c h flashes loaded undoable chip =
    let V = g.R.Rig.view in
    let a = V c.args.rig.now in
    let b = V c.settle_intended.new.rig in
    let d = V c.ask_settled.new.rig in
    let l = c.args.journal.now in
    let first = c.in_ok-settle_intended.ensures.honest h flashes loaded undoable chip in
    let model = g.met.R.Rig.model c.settle_intended.new.rig first.honest in
    let asks = c.ask_settled.ensures.honest first.honest first.steady.settled in
    let made : b.device.chip ≡ a.device.chip = (at_exit _ a b model first.moments).make.chip in
    goes_then flashes [] [] l l a b d (tt {0}) c.ask_settled.result model first (goes_asked c.step_laws.ensures flashes l b d first.steady c.ask_settled.result asks)
    (λ board done. subst (λ (p : ChipData). IsBoardOf c.args.table.now p board) made done)
