use Rattle.std.proofs.Common.{rules, ◌≡◌, ◌∷◌, [], ℕ, true, List, ap, ◌∙◌, subst, OnOk}
use Rattle.std.specs.Prelude.{is_some}
use Rattle.stm_wire.proofs.Names.{Device, GoesOn}
use Rattle.stm_session.proofs.Names.{confirmed_at, id_turns, IsInOrder, Sends, Step}
use Rattle.stm_session.proofs.Asking.{asks_then, nothing_asked, settled_still}
use Rattle.stm_session.proofs.LookingAgain.{closing_some, id_halts, id_stops, looked_order, looked_stops}
use Rattle.stm_session.proofs.closing.look_again.Goals as goal

pub returns-then-not-is_asked-clause-honest : goal.returns-then-not-is_asked-clause-honest
returns-then-not-is_asked-clause-honest g c h settled chip =
    nothing_asked c.sending_is_harmless.ensures.asking (g.R.Rig.view c.args.rig.now) _ _ h (g.met.R.Rig.model c.args.rig.now h) settled tt

pub returns-in_err-id-clause-stops : goal.returns-in_err-id-clause-stops
returns-in_err-id-clause-stops g c torn =
    let V = g.R.Rig.view in
    let some : is_some (confirmed_at c.args.chip.now) ≡ true = search (rules, c.is_asked.ensures, c.if-not-is_asked.false) in
    id_stops torn (V c.args.rig.now) (V c.ask_id.new.rig) (confirmed_at c.args.chip.now) _ c.from_residual.result some c.from_residual.ensures.1 (c.in_err-id.ensures.stops torn)

pub returns-then-id-clause-stops : goal.returns-then-id-clause-stops
returns-then-id-clause-stops g c torn =
    let V = g.R.Rig.view in
    let some : is_some (confirmed_at c.args.chip.now) ≡ true = search (rules, c.is_asked.ensures, c.if-not-is_asked.false) in
    id_halts torn (V c.args.rig.now) (V c.ask_id.new.rig) (confirmed_at c.args.chip.now) c.in_ok-id.id some (c.in_ok-id.ensures.order torn)

pub returns-clause-order : goal.returns-clause-order
returns-clause-order g c torn =
    let V = g.R.Rig.view in
    let k = c.args.chip.now in
    let o = confirmed_at k in
    let some : is_some o ≡ true = search (rules, c.is_asked.ensures, c.if-not-is_asked.false) in
    let same : c.in_ok-id.id ≡ k.id = search (rules, c.id.ensures, c.if-id.false) in
    let P : ℕ → Type 0 = λ id. GoesOn (IsInOrder torn (Sends (id_turns id) ∷ [])) (V c.args.rig.now).calls (V c.ask_id.new.rig).calls in
    let Q : List Step → Type 0 = λ steps. OnOk c.confirm.result (GoesOn (IsInOrder torn steps) (V c.args.rig.now).calls (V c.confirm.new.rig).calls) in
    subst Q (closing_some o k some)
    (looked_order torn (V c.args.rig.now) (V c.ask_id.new.rig) (V c.confirm.new.rig) c.confirm.result k.id (subst P same (c.in_ok-id.ensures.order torn)) o k.unique some (c.confirm.ensures.order torn))

pub returns-clause-stops : goal.returns-clause-stops
returns-clause-stops g c torn =
    let V = g.R.Rig.view in
    let o = confirmed_at c.args.chip.now in
    let some : is_some o ≡ true = search (rules, c.is_asked.ensures, c.if-not-is_asked.false) in
    looked_stops torn (V c.args.rig.now) (V c.ask_id.new.rig) (V c.confirm.new.rig) c.confirm.result c.in_ok-id.id (c.in_ok-id.ensures.order torn) o some (c.confirm.ensures.stops torn)

pub returns-clause-honest : goal.returns-clause-honest
returns-clause-honest g c h settled chip =
    let V = g.R.Rig.view in
    let first = c.in_ok-id.ensures.honest h settled in
    let same = ap (λ (d : Device). d.chip) first.same ∙ chip in
    asks_then (V c.args.rig.now) (V c.ask_id.new.rig) (V c.confirm.new.rig) _ c.confirm.result first
    (c.confirm.ensures.honest first.honest (settled_still (V c.args.rig.now) (V c.ask_id.new.rig) _ settled first) same) (λ y done. done)
