use Rattle.stm_session.proofs.Unwritings.{held_appends_nothing, broken_appends_nothing}
use Rattle.std.proofs.Common.{◌/◌, ◌%◌, refl, ◌∷◌, []}
use Rattle.stm_wire.proofs.Names.{get_id_turns}
use Rattle.stm_wire.specs.Stopped.{get_id}
use Rattle.stm_session.proofs.Asking.{asked, broken_off}
use Rattle.stm_session.proofs.Names.{Begin, id_turns, IsGetId, Sends}
use Rattle.stm_session.proofs.CutShort.{begin_all, command_stops}
use Rattle.stm_session.proofs.Orders.{order_sent}
use Rattle.stm_session.proofs.contact.ask_id.Goals as goal

pub returns-in_err-id-clause-honest : goal.returns-in_err-id-clause-honest
returns-in_err-id-clause-honest g c h settled =
    let V = g.R.Rig.view in
    let does = c.in_err-id.ensures.honest h settled in
    broken_off c.sending_is_harmless.ensures.asking (V c.args.rig.now) (V c.get_id.new.rig) c.from_residual.result _ h
    (g.met.R.Rig.model c.args.rig.now h).device settled (get_id refl) c.in_err-id.ensures.broken.2 does.fails c.from_residual.ensures.1

pub returns-clause-honest : goal.returns-clause-honest
returns-clause-honest g c h settled =
    let V = g.R.Rig.view in
    let id = (c.in_ok-id.ensures.honest h settled).done in
    asked c.sending_is_harmless.ensures.asking (V c.args.rig.now) (V c.get_id.new.rig) _ _ h
    (g.met.R.Rig.model c.args.rig.now h).device settled (get_id refl) c.in_ok-id.ensures.held id.1 id.0

pub returns-clause-order : goal.returns-clause-order
returns-clause-order g c torn =
    let V = g.R.Rig.view in
    order_sent torn (id_turns c.in_ok-id.id) (V c.args.rig.now).calls (V c.get_id.new.rig).calls c.in_ok-id.ensures.held.recorded

pub returns-in_err-id-clause-stops : goal.returns-in_err-id-clause-stops
returns-in_err-id-clause-stops g c torn =
    let V = g.R.Rig.view in
    let broken = c.in_err-id.ensures.broken in
    let turns = get_id_turns broken.0 broken.1 in
    let get_id : IsGetId (Sends turns ∷ []) = record { high = broken.0; low = broken.1; is = refl } in
    command_stops (Begin IsGetId) torn _ turns (V c.args.rig.now) (V c.get_id.new.rig) c.from_residual.result c.from_residual.ensures.1 (begin_all IsGetId (Sends turns ∷ []) get_id) broken.2.recorded

pub returns-in_err-id-clause-unwritten : goal.returns-in_err-id-clause-unwritten
returns-in_err-id-clause-unwritten g c =
    let V = g.R.Rig.view in
    broken_appends_nothing _ (get_id_turns c.in_err-id.ensures.broken.0 c.in_err-id.ensures.broken.1) (V c.args.rig.now).calls (V c.get_id.new.rig).calls c.in_err-id.ensures.broken.2.recorded

pub returns-clause-unwritten : goal.returns-clause-unwritten
returns-clause-unwritten g c =
    let V = g.R.Rig.view in
    held_appends_nothing (get_id_turns (c.in_ok-id.id / 256) (c.in_ok-id.id % 256)) (V c.args.rig.now).calls (V c.get_id.new.rig).calls c.in_ok-id.ensures.held.recorded
