use Rattle.stm_session.proofs.Names.{Cause, contact_way, most_of_reaching, ReachesInOrder, ReachesInPart}
use Rattle.std.proofs.Common.{Bool, None, refl, ℕ, subst, sym}
use Rattle.stm_wire.proofs.Names.{GoesOn, IsSession}
use Rattle.stm_session.proofs.InfoContracts.{info_opened, info_unopened}
use Rattle.stm_session.proofs.Sending.{same_fault}
use Rattle.stm_session.proofs.CutShort.{by_fault}
use Rattle.stm_session.proofs.inspect.info.Goals as goal

pub returns-in_err-opened-clause-promised : goal.returns-in_err-opened-clause-promised
returns-in_err-opened-clause-promised g c =
    let V = g.R.Rig.view in
    let said = c.in_err-opened.ensures in
    info_unopened c.args.table.now (V c.args.rig.now) (V c.open.new.rig) _ c.from_residual.result said.unsent said.unsent_calls said.honest said.memory c.from_residual.ensures.1

pub returns-clause-promised : goal.returns-clause-promised
returns-clause-promised g c =
    let V = g.R.Rig.view in
    let said = c.in_ok-opened.ensures in
    info_opened c.args.table.now (V c.args.rig.now) (V c.open.new.rig) c.in_ok-opened.opened _ said.unsent said.unsent_calls said.honest c.id.ensures refl

pub returns-in_err-opened-clause-puts : goal.returns-in_err-opened-clause-puts
returns-in_err-opened-clause-puts g c =
    let V = g.R.Rig.view in
    let P : Bool → Type 0 = λ w. GoesOn (IsSession None 0x7F 131072 w (most_of_reaching 131072)) (V c.args.rig.now).calls (V c.open.new.rig).calls in
    same_fault P _ c.from_residual.result c.from_residual.ensures.1 c.in_err-opened.ensures.puts

pub returns-clause-order : goal.returns-clause-order
returns-clause-order g c torn =
    let V = g.R.Rig.view in
    let P : ℕ → Type 0 = λ id. ReachesInOrder contact_way id torn (V c.args.rig.now) (V c.open.new.rig) in
    subst P (sym c.id.ensures) (c.in_ok-opened.ensures.order torn)

pub returns-in_err-opened-clause-stops : goal.returns-in_err-opened-clause-stops
returns-in_err-opened-clause-stops g c torn =
    let V = g.R.Rig.view in
    by_fault (λ (k : Cause). GoesOn (ReachesInPart contact_way k torn) (V c.args.rig.now).calls (V c.open.new.rig).calls) _ c.from_residual.result c.from_residual.ensures.1 (c.in_err-opened.ensures.stops torn)
