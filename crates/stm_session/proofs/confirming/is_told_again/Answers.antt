use Rattle.std.proofs.Common.{Bool, Some, rules, refl}
use Rattle.stm_wire.proofs.Names.{GoesOn, IsPart}
use Rattle.stm_session.proofs.Names.{most_of_confirming}
use Rattle.stm_session.proofs.Asking.{asks_failed, asks_ok}
use Rattle.stm_session.proofs.Confirmings.{again_read, confirm_part, confirm_unasked, told_again}
use Rattle.stm_session.proofs.Sending.{same_fault}
use Rattle.stm_session.proofs.confirming.is_told_again.Goals as goal

pub returns-in_err-is_told-clause-puts : goal.returns-in_err-is_told-clause-puts
returns-in_err-is_told-clause-puts g c known =
    let V = g.R.Rig.view in
    let a = (V c.args.rig.now).calls in
    let b = (V c.ask_place.new.rig).calls in
    let P : Bool → Type 0 = λ w. GoesOn (IsPart (Some c.args.chip.now) w most_of_confirming) a b in
    same_fault P _ c.from_residual.result c.from_residual.ensures.1 (confirm_part c.args.chip.now _ c.args.place _ a b (search rules) c.requires (c.in_err-is_told.ensures.puts c.args.chip.now c.args.place known refl (search rules)))

pub returns-clause-puts : goal.returns-clause-puts
returns-clause-puts g c known =
    let V = g.R.Rig.view in
    confirm_part c.args.chip.now _ c.args.place _ (V c.args.rig.now).calls (V c.ask_place.new.rig).calls (search rules) c.requires (c.in_ok-is_told.ensures.puts c.args.chip.now c.args.place known refl (search rules))

pub returns-clause-order : goal.returns-clause-order
returns-clause-order g c torn =
    let V = g.R.Rig.view in
    told_again c.args.place c.args.chip.now.unique torn (V c.args.rig.now) (V c.ask_place.new.rig) _ (search rules) c.in_ok-is_told.is_told c.are_of.result _ c.are_of.ensures (c.in_ok-is_told.ensures.order torn)

pub returns-in_err-is_told-clause-stops : goal.returns-in_err-is_told-clause-stops
returns-in_err-is_told-clause-stops g c torn =
    let V = g.R.Rig.view in
    confirm_unasked c.args.place c.args.chip.now.unique torn (V c.args.rig.now) (V c.ask_place.new.rig) _ (search rules) _ c.from_residual.result c.from_residual.ensures.1 (c.in_err-is_told.ensures.stops torn)

pub returns-in_err-is_told-clause-honest : goal.returns-in_err-is_told-clause-honest
returns-in_err-is_told-clause-honest g c h settled =
    let V = g.R.Rig.view in
    asks_failed (V c.args.rig.now) (V c.ask_place.new.rig) _ c.from_residual.result (c.in_err-is_told.ensures.honest h settled) c.from_residual.ensures.1

pub returns-clause-honest : goal.returns-clause-honest
returns-clause-honest g c h settled =
    let V = g.R.Rig.view in
    let is = (g.met.R.Rig.model c.args.rig.now h).device in
    asks_ok (V c.args.rig.now) (V c.ask_place.new.rig) _ c.are_of.result (c.in_ok-is_told.ensures.honest h settled)
    (λ told. again_read (V c.args.rig.now).device is c.args.place c.args.chip.now.unique _ c.in_ok-is_told.is_told c.are_of.result _ (search rules) c.are_of.ensures told)
