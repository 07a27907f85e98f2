use Rattle.stm_session.proofs.Unwritings.{held_appends_nothing, broken_appends_nothing}
use Rattle.std.proofs.Common.{◌<◌, rules, ℕ, List, length, take, refl, ◌∷◌, []}
use Rattle.stm_wire.proofs.Names.{get, get_turns}
use Rattle.stm_session.proofs.Asking.{asked, broken_off}
use Rattle.stm_session.proofs.Names.{Begin, IsGet, Sends}
use Rattle.stm_session.proofs.CutShort.{begin_all, command_stops}
use Rattle.stm_session.proofs.Orders.{order_sent}
use Rattle.stm_session.proofs.contact.ask_commands.Goals as goal

pub returns-in_err-commands-clause-honest : goal.returns-in_err-commands-clause-honest
returns-in_err-commands-clause-honest g c h settled =
    let V = g.R.Rig.view in
    let does = c.in_err-commands.ensures.honest h settled in
    broken_off c.sending_is_harmless.ensures.asking (V c.args.rig.now) (V c.get_commands.new.rig) c.from_residual.result _ h
    (g.met.R.Rig.model c.args.rig.now h).device settled (get refl) c.in_err-commands.ensures.broken.3 does.fails c.from_residual.ensures.1

pub returns-clause-honest : goal.returns-clause-honest
returns-clause-honest g c h settled =
    let V = g.R.Rig.view in
    let told = (c.in_ok-commands.ensures.honest h settled).done in
    asked c.sending_is_harmless.ensures.asking (V c.args.rig.now) (V c.get_commands.new.rig) _ _ h
    (g.met.R.Rig.model c.args.rig.now h).device settled (get refl) c.in_ok-commands.ensures.held told.2 (record { version = told.0; codes = told.1 })

pub returns-clause-order : goal.returns-clause-order
returns-clause-order g c torn =
    let V = g.R.Rig.view in
    let version : ℕ = c.in_ok-commands.commands.version in
    let codes : List ℕ = take c.in_ok-commands.commands.count c.in_ok-commands.commands.codes in
    let few : length codes < 256 = search rules in
    (version, codes, order_sent torn (get_turns version codes) (V c.args.rig.now).calls (V c.get_commands.new.rig).calls c.in_ok-commands.ensures.held.recorded, few)

pub returns-in_err-commands-clause-stops : goal.returns-in_err-commands-clause-stops
returns-in_err-commands-clause-stops g c torn =
    let V = g.R.Rig.view in
    let broken = c.in_err-commands.ensures.broken in
    let turns = get_turns broken.0 broken.1 in
    let get : IsGet (Sends turns ∷ []) = record { version = broken.0; codes = broken.1; few = broken.2; is = refl } in
    command_stops (Begin IsGet) torn _ turns (V c.args.rig.now) (V c.get_commands.new.rig) c.from_residual.result c.from_residual.ensures.1 (begin_all IsGet (Sends turns ∷ []) get) broken.3.recorded

pub returns-in_err-commands-clause-unwritten : goal.returns-in_err-commands-clause-unwritten
returns-in_err-commands-clause-unwritten g c =
    let V = g.R.Rig.view in
    broken_appends_nothing _ (get_turns c.in_err-commands.ensures.broken.0 c.in_err-commands.ensures.broken.1) (V c.args.rig.now).calls (V c.get_commands.new.rig).calls c.in_err-commands.ensures.broken.3.recorded

pub returns-clause-unwritten : goal.returns-clause-unwritten
returns-clause-unwritten g c =
    let V = g.R.Rig.view in
    held_appends_nothing (get_turns c.in_ok-commands.commands.version (take c.in_ok-commands.commands.count c.in_ok-commands.commands.codes)) (V c.args.rig.now).calls (V c.get_commands.new.rig).calls c.in_ok-commands.ensures.held.recorded
