use Rattle.std.proofs.Common.{arith, subst}
use Rattle.stm_wire.proofs.Names.{ChipData, GoesOn}
use Rattle.stm_session.proofs.Names.{AsksBoard, AsksInPart, Begin, BeginsNothing, Cause, cause_of, contact_way, IsBoardOf, StopsBy}
use Rattle.stm_session.proofs.AskingBoards.{few_more, few_then, part_asked, part_settled, settle_few}
use Rattle.stm_session.proofs.CutShort.{by_fault}
use Rattle.stm_session.proofs.Orders.{settles_then}
use Rattle.stm_session.proofs.Reaching.{err_then, told_then}
use Rattle.stm_session.proofs.Unbegun.{then_asks}
use Rattle.stm_session.proofs.Unwritings.{settling_appends_nothing, then_appends_nothing}
use Rattle.stm_session.proofs.board_session.ask_finished.Goals as goal

pub returns-in_err-settle_safe-clause-unwritten : goal.returns-in_err-settle_safe-clause-unwritten
returns-in_err-settle_safe-clause-unwritten g c =
    let V = g.R.Rig.view in
    let a = V c.args.rig.now in
    let b = V c.settle_safe.new.rig in
    settling_appends_nothing 0x7F 131072 a.calls b.calls c.settle_safe.ensures.calls

pub returns-in_err-settle_safe-clause-few : goal.returns-in_err-settle_safe-clause-few
returns-in_err-settle_safe-clause-few g c =
    let V = g.R.Rig.view in
    let a = V c.args.rig.now in
    let b = V c.settle_safe.new.rig in
    few_more 537411600 537411926 a.calls b.calls (omega arith) (settle_few 0x7F 131072 a.calls b.calls (omega arith) c.settle_safe.ensures.calls)

pub returns-in_err-settle_safe-clause-stops : goal.returns-in_err-settle_safe-clause-stops
returns-in_err-settle_safe-clause-stops g c torn =
    let V = g.R.Rig.view in
    let a = V c.args.rig.now in
    let b = V c.settle_safe.new.rig in
    by_fault (λ (k : Cause). GoesOn (AsksInPart c.args.table.now contact_way k torn) a.calls b.calls) _ c.from_residual.result c.from_residual.ensures.1
    (part_settled c.args.table.now contact_way _ torn a.calls b.calls c.in_err-settle_safe.ensures.sent c.settle_safe.ensures.calls)

pub returns-clause-unwritten : goal.returns-clause-unwritten
returns-clause-unwritten g c =
    let V = g.R.Rig.view in
    let a = V c.args.rig.now in
    let b = V c.settle_safe.new.rig in
    let d = V c.ask_settled.new.rig in
    then_appends_nothing a.calls b.calls d.calls (settling_appends_nothing 0x7F 131072 a.calls b.calls c.settle_safe.ensures.calls) c.ask_settled.ensures.unwritten

pub returns-clause-few : goal.returns-clause-few
returns-clause-few g c =
    let V = g.R.Rig.view in
    let a = V c.args.rig.now in
    let b = V c.settle_safe.new.rig in
    let d = V c.ask_settled.new.rig in
    few_then 537411600 326 a.calls b.calls d.calls (settle_few 0x7F 131072 a.calls b.calls (omega arith) c.settle_safe.ensures.calls) c.ask_settled.ensures.few

pub returns-clause-order : goal.returns-clause-order
returns-clause-order g c torn =
    let V = g.R.Rig.view in
    let a = V c.args.rig.now in
    let b = V c.settle_safe.new.rig in
    let d = V c.ask_settled.new.rig in
    told_then c.ask_settled.result _ _
    (λ board asks. (asks.0, asks.1, settles_then contact_way torn asks.0 a.calls b.calls d.calls c.settle_safe.ensures.calls c.in_ok-settle_safe.ensures.settled asks.2))
    (c.ask_settled.ensures.order torn)

pub returns-clause-stops : goal.returns-clause-stops
returns-clause-stops g c torn =
    let V = g.R.Rig.view in
    let a = V c.args.rig.now in
    let b = V c.settle_safe.new.rig in
    let d = V c.ask_settled.new.rig in
    err_then c.ask_settled.result (λ e. StopsBy (Begin (AsksBoard c.args.table.now)) (cause_of e) torn b d) (λ e. GoesOn (AsksInPart c.args.table.now contact_way (cause_of e) torn) a.calls d.calls)
    (λ e stops. part_asked c.args.table.now contact_way (cause_of e) torn a b d c.settle_safe.ensures.calls c.in_ok-settle_safe.ensures.settled stops) (c.ask_settled.ensures.stops torn)

pub returns-clause-honest : goal.returns-clause-honest
returns-clause-honest g c h safe =
    let V = g.R.Rig.view in
    let a = V c.args.rig.now in
    let b = V c.settle_safe.new.rig in
    let d = V c.ask_settled.new.rig in
    let first = c.in_ok-settle_safe.ensures.honest h safe in
    let second = c.ask_settled.ensures.honest first.honest first.settled in
    let P : ChipData → Type 0 = λ chip. BeginsNothing a d c.ask_settled.result (IsBoardOf c.args.table.now chip) in
    subst P first.left.make.chip (then_asks a b d _ c.ask_settled.result first second (λ y p. p))
