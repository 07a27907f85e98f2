use Rattle.stm_session.proofs.Unwritings.{then_appends_nothing}
use Rattle.std.proofs.Common.{◌∙◌, ap, ◌∷◌, [], List}
use Rattle.stm_wire.proofs.Names.{Device, get_turns}
use Rattle.stm_session.proofs.Asking.{asks_failed, asks_ok, asks_then, settled_still}
use Rattle.stm_session.proofs.Names.{id_turns, Sends, Step}
use Rattle.stm_session.proofs.AskingStops.{get_id_stops, get_stops}
use Rattle.stm_session.proofs.Orders.{order_then}
use Rattle.stm_session.proofs.contact.ask.Goals as goal

pub returns-in_err-commands-clause-honest : goal.returns-in_err-commands-clause-honest
returns-in_err-commands-clause-honest g c h settled =
    let V = g.R.Rig.view in
    asks_failed (V c.args.rig.now) (V c.ask_commands.new.rig) _ c.from_residual.result (c.in_err-commands.ensures.honest h settled) c.from_residual.ensures.1

pub returns-in_err-id-clause-honest : goal.returns-in_err-id-clause-honest
returns-in_err-id-clause-honest g c h settled =
    let V = g.R.Rig.view in
    let first = c.in_ok-commands.ensures.honest h settled in
    let second = c.in_err-id.ensures.honest first.honest (settled_still (V c.args.rig.now) (V c.ask_commands.new.rig) _ settled first) in
    asks_then (V c.args.rig.now) (V c.ask_commands.new.rig) (V c.ask_id.new.rig) _ c.from_residual-in_err-id.result first
    (asks_failed (V c.ask_commands.new.rig) (V c.ask_id.new.rig) _ c.from_residual-in_err-id.result second c.from_residual-in_err-id.ensures.1) (λ y done. done)

pub returns-clause-honest : goal.returns-clause-honest
returns-clause-honest g c h settled =
    let V = g.R.Rig.view in
    let first = c.in_ok-commands.ensures.honest h settled in
    let second = c.in_ok-id.ensures.honest first.honest (settled_still (V c.args.rig.now) (V c.ask_commands.new.rig) _ settled first) in
    asks_then (V c.args.rig.now) (V c.ask_commands.new.rig) (V c.ask_id.new.rig) _ _ first
    (asks_ok (V c.ask_commands.new.rig) (V c.ask_id.new.rig) _ _ second (λ id. record { commands = first.done; id = id ∙ ap (λ (d : Device). d.chip.id) first.same })) (λ y done. done)

pub returns-clause-order : goal.returns-clause-order
returns-clause-order g c torn =
    let V = g.R.Rig.view in
    let got = c.in_ok-commands.ensures.order torn in
    let own : List Step = Sends (id_turns c.in_ok-id.id) ∷ [] in
    (got.0, got.1, order_then torn (Sends (get_turns got.0 got.1) ∷ []) own (V c.args.rig.now).calls (V c.ask_commands.new.rig).calls (V c.ask_id.new.rig).calls got.2 (c.in_ok-id.ensures.order torn), got.3)

pub returns-in_err-commands-clause-stops : goal.returns-in_err-commands-clause-stops
returns-in_err-commands-clause-stops g c torn =
    let V = g.R.Rig.view in
    get_stops torn (V c.args.rig.now) (V c.ask_commands.new.rig) _ c.from_residual.result
    c.from_residual.ensures.1 (c.in_err-commands.ensures.stops torn)

pub returns-in_err-id-clause-stops : goal.returns-in_err-id-clause-stops
returns-in_err-id-clause-stops g c torn =
    let V = g.R.Rig.view in
    let got = c.in_ok-commands.ensures.order torn in
    get_id_stops torn got.0 got.1 (V c.args.rig.now) (V c.ask_commands.new.rig) (V c.ask_id.new.rig)
    _ c.from_residual-in_err-id.result got.3 c.from_residual-in_err-id.ensures.1 got.2
    (c.in_err-id.ensures.stops torn)

pub returns-in_err-id-clause-unwritten : goal.returns-in_err-id-clause-unwritten
returns-in_err-id-clause-unwritten g c =
    let V = g.R.Rig.view in
    then_appends_nothing (V c.args.rig.now).calls (V c.ask_commands.new.rig).calls (V c.ask_id.new.rig).calls c.in_ok-commands.ensures.unwritten c.in_err-id.ensures.unwritten

pub returns-clause-unwritten : goal.returns-clause-unwritten
returns-clause-unwritten g c =
    let V = g.R.Rig.view in
    then_appends_nothing (V c.args.rig.now).calls (V c.ask_commands.new.rig).calls (V c.ask_id.new.rig).calls c.in_ok-commands.ensures.unwritten c.in_ok-id.ensures.unwritten
