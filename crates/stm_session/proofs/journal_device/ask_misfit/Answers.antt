use Rattle.std.proofs.Common.{◌∷◌, [], refl, ◌≡◌, ◌++◌, ℕ, List, ap, subst, rules}
use Rattle.stm_wire.proofs.Names.{Device, get_turns}
use Rattle.stm_session.proofs.Names.{AsksInOrder, Begin, id_turns, IsAsking, IsGet, of_refusal, Sends, Step}
use Rattle.stm_session.proofs.Asking.{asks_failed, asks_ok, asks_then, settled_still}
use Rattle.stm_session.proofs.AskingStops.{asking_is, get_begins, get_id_stops, get_stops}
use Rattle.stm_session.proofs.CutShort.{begin_all, halts}
use Rattle.stm_session.proofs.Orders.{order_then}
use Rattle.stm_session.proofs.Unread.{none_some}
use Rattle.stm_session.proofs.journal_device.ask_misfit.Goals as goal

pub returns-then-not-can_erase-clause-order : goal.returns-then-not-can_erase-clause-order
returns-then-not-can_erase-clause-order g c torn none = none_some _ _ none refl

pub returns-then-id-clause-order : goal.returns-then-id-clause-order
returns-then-id-clause-order g c torn none = none_some _ _ none refl

pub returns-clause-order : goal.returns-clause-order
returns-clause-order g c torn none =
    let V = g.R.Rig.view in
    let got = c.in_ok-can_erase.ensures.order torn in
    let a = V c.args.rig.now in
    let d = V c.ask_id.new.rig in
    let P : ℕ → Type 0 = λ id. AsksInOrder id torn a d in
    let own : List Step = Sends (id_turns c.in_ok-id.id) ∷ [] in
    let same : c.in_ok-id.id ≡ c.args.chip.now.id = search rules in
    subst P same (got.0, got.1, order_then torn (Sends (get_turns got.0 got.1) ∷ []) own a.calls (V c.ask_erase.new.rig).calls d.calls got.2 (c.in_ok-id.ensures.order torn), got.3)

pub returns-in_err-can_erase-clause-stops : goal.returns-in_err-can_erase-clause-stops
returns-in_err-can_erase-clause-stops g c torn =
    let V = g.R.Rig.view in
    get_stops torn (V c.args.rig.now) (V c.ask_erase.new.rig) _ c.from_residual.result
    c.from_residual.ensures.1 (c.in_err-can_erase.ensures.stops torn)

pub returns-in_err-id-clause-stops : goal.returns-in_err-id-clause-stops
returns-in_err-id-clause-stops g c torn =
    let V = g.R.Rig.view in
    let got = c.in_ok-can_erase.ensures.order torn in
    get_id_stops torn got.0 got.1 (V c.args.rig.now) (V c.ask_erase.new.rig) (V c.ask_id.new.rig) _
    c.from_residual-in_err-id.result got.3 c.from_residual-in_err-id.ensures.1 got.2
    (c.in_err-id.ensures.stops torn)

pub returns-then-not-can_erase-clause-refuses : goal.returns-then-not-can_erase-clause-refuses
returns-then-not-can_erase-clause-refuses g c torn =
    let V = g.R.Rig.view in
    let got = c.in_ok-can_erase.ensures.order torn in
    let before : List Step = Sends (get_turns got.0 got.1) ∷ [] in
    let get : IsGet before = record { version = got.0; codes = got.1; few = got.3; is = refl } in
    halts (Begin IsAsking) of_refusal torn before (V c.args.rig.now) (V c.ask_erase.new.rig)
    (get_begins before get) refl got.2

pub returns-then-id-clause-refuses : goal.returns-then-id-clause-refuses
returns-then-id-clause-refuses g c torn =
    let V = g.R.Rig.view in
    let a = V c.args.rig.now in
    let d = V c.ask_id.new.rig in
    let got = c.in_ok-can_erase.ensures.order torn in
    let before : List Step = Sends (get_turns got.0 got.1) ∷ [] in
    let own : List Step = Sends (id_turns c.in_ok-id.id) ∷ [] in
    halts (Begin IsAsking) of_refusal torn (before ++ own) a d (begin_all IsAsking (before ++ own) (asking_is got.0 got.1 c.in_ok-id.id got.3)) refl
    (order_then torn before own a.calls (V c.ask_erase.new.rig).calls d.calls got.2 (c.in_ok-id.ensures.order torn))

-- the device has answered which codes it lists, and is asked for its id
pub returns-in_err-id-clause-honest : goal.returns-in_err-id-clause-honest
returns-in_err-id-clause-honest g c h settled =
    let V = g.R.Rig.view in
    let a = V c.args.rig.now in
    let b = V c.ask_erase.new.rig in
    let d = V c.ask_id.new.rig in
    let first = c.in_ok-can_erase.ensures.honest h settled in
    let second = c.in_err-id.ensures.honest first.honest (settled_still a b _ settled first) in
    asks_failed a d _ c.from_residual-in_err-id.result
    (asks_then a b d _ _ first second (λ y p. p)) c.from_residual-in_err-id.ensures.1

pub returns-then-id-clause-honest : goal.returns-then-id-clause-honest
returns-then-id-clause-honest g c h settled =
    let V = g.R.Rig.view in
    let a = V c.args.rig.now in
    let b = V c.ask_erase.new.rig in
    let d = V c.ask_id.new.rig in
    let first = c.in_ok-can_erase.ensures.honest h settled in
    let second = c.in_ok-id.ensures.honest first.honest (settled_still a b _ settled first) in
    let same = first.same in
    let can = first.done in
    let own = ap (λ (x : Device). x.chip.id) same in
    asks_ok a d _ _ (asks_then a b d _ _ first second (λ y p. p)) (λ p. search (rules, can, own, p))

pub returns-clause-honest : goal.returns-clause-honest
returns-clause-honest g c h settled =
    let V = g.R.Rig.view in
    let a = V c.args.rig.now in
    let b = V c.ask_erase.new.rig in
    let d = V c.ask_id.new.rig in
    let first = c.in_ok-can_erase.ensures.honest h settled in
    let second = c.in_ok-id.ensures.honest first.honest (settled_still a b _ settled first) in
    let same = first.same in
    let can = first.done in
    let own = ap (λ (x : Device). x.chip.id) same in
    asks_ok a d _ _ (asks_then a b d _ _ first second (λ y p. p)) (λ p. search (rules, can, own, p))
