use Rattle.std.proofs.Common.{◌≡◌, ◌≤◌, ◌∙◌, ℕ, length, Option, Result, sym, ap, subst}
use Rattle.stm_wire.specs.declared.fault.WireFault.{WireFault}
use Rattle.stm_wire.specs.declared.intent.Intent.{Intent}
use Rattle.stm_wire.proofs.Names.{EndsUnder, GoesOn, Harmless, SettlesWithin, settling_byte}
use Rattle.stm_wire.specs.Settling as wire
use Rattle.stm_journal.proofs.Names.{intent_of, IsLoaded}
use Rattle.stm_session.proofs.Names.{byte_at_journal, byte_of, IsWithinLimit, limit_of, risked_at, settling_limit, settling_way}
use Rattle.stm_session.proofs.Awaiting.{own_within}
use Rattle.stm_session.proofs.Freshness.{way_ends, way_sends}
use Rattle.stm_session.proofs.Settlings.{enough_sent, intent_text, settled_goes, settling_failed}
use Rattle.stm_session.proofs.Straying.{strays_settled, strays_stopped}
use Rattle.stm_session.proofs.settling.settle_intended.Given.{Over}
use Rattle.stm_session.proofs.settling.settle_intended.Goals.{After-settle_under}
use Rattle.stm_session.proofs.settling.settle_intended.Goals as goal

-- the byte of the journal's intent is sent, as often as the device may await it
settled : (g : Over) (c : After-settle_under g) (made : Result (Unit {0}) WireFault)
    → c.settle_under.result ≡ made → (g.R.Rig.view c.args.rig.now).is_honest
    → let a = g.R.Rig.view c.args.rig.now in IsLoaded c.args.journal.now a.journal
    → Harmless a.device (byte_at_journal a.journal) (risked_at a.journal)
    → length a.device.owed ≤ 4096
    → IsWithinLimit c.args.chip.now a
    → wire.Settles (byte_at_journal a.journal) (risked_at a.journal) a.device made a
    (g.R.Rig.view c.settle_under.new.rig)
settled g c made was h loaded harmless owed within =
    let a = g.R.Rig.view c.args.rig.now in
    let b = g.R.Rig.view c.settle_under.new.rig in
    let l = c.args.journal.now in
    let risked = risked_at a.journal in
    let byte = ap settling_byte (c.last_intent.ensures ∙ intent_text l a.journal loaded) in
    let H : ℕ → Type 0 = λ x. Harmless a.device x risked in
    let S : ℕ → Type 0 = λ x. wire.Settles x risked a.device made a b in
    let enough = enough_sent c.args.chip.now a l loaded _ _ byte c.settling_limit-limit.ensures
    within in
    let R : Result (Unit {0}) WireFault → Type 0 =
    λ r. wire.Settles (settling_byte c.last_intent.result) risked a.device r a b in
    subst S byte
    (subst R was (c.settle_under.ensures.awaited h enough risked (subst H (sym byte) harmless) owed))

-- what holds of the intent and limit that were handed on holds of the journal's
at_journal : (g : Over) (c : After-settle_under g) (P : Option Intent → ℕ → Type 0)
    → P c.last_intent.result c.settling_limit-limit.result
    → let intent = intent_of c.args.journal.now.state in
    P intent (settling_limit c.args.chip.now.kind c.args.journal.now.is_greeted intent)
at_journal g c P p =
    let intent = intent_of c.args.journal.now.state in
    let limit = settling_limit c.args.chip.now.kind c.args.journal.now.is_greeted intent in
    subst (λ (o : Option Intent). P o limit) c.last_intent.ensures
    (subst (P c.last_intent.result) c.settling_limit-limit.ensures p)

sent_settling : (g : Over) (c : After-settle_under g)
    → let way = settling_way c.args.chip.now.kind c.args.journal.now.is_greeted
    (intent_of c.args.journal.now.state) in
    GoesOn (SettlesWithin (byte_of way) (limit_of way)) (g.R.Rig.view c.args.rig.now).calls
    (g.R.Rig.view c.settle_under.new.rig).calls
sent_settling g c =
    let V = g.R.Rig.view in
    let a = (V c.args.rig.now).calls in
    let b = (V c.settle_under.new.rig).calls in
    let I : Option Intent → ℕ → Type 0 =
    λ o limit. GoesOn (SettlesWithin (settling_byte o) limit) a b in
    way_sends c.args.chip.now.kind c.args.journal.now.is_greeted (intent_of c.args.journal.now.state) a b
    (at_journal g c I c.settle_under.ensures.calls)

pub returns-in_err-settle_under-clause-honest : goal.returns-in_err-settle_under-clause-honest
returns-in_err-settle_under-clause-honest g c h flashes loaded undoable chip =
    let V = g.R.Rig.view in
    let model = g.met.R.Rig.model c.args.rig.now h in
    let within = own_within c.step_laws.ensures c.args.chip.now (V c.args.rig.now) model.device undoable.awaits chip in
    let at = (goal.at.returns-in_err-settle_under-clause-honest g c).After-settle_under in
    let settles = settled g at _ c.in_err-settle_under.was h loaded undoable.harmless undoable.owed
    within in
    settling_failed c.step_laws.ensures flashes c.args.journal.now (V c.args.rig.now)
    (V c.settle_under.new.rig) model loaded undoable c.from_residual.result settles.keeps
    settles.fails c.from_residual.ensures.1

pub returns-clause-honest : goal.returns-clause-honest
returns-clause-honest g c h flashes loaded undoable chip =
    let V = g.R.Rig.view in
    let model = g.met.R.Rig.model c.args.rig.now h in
    let within = own_within c.step_laws.ensures c.args.chip.now (V c.args.rig.now) model.device undoable.awaits chip in
    let at = (goal.at.returns-clause-honest g c).After-settle_under in
    let settles = settled g at _ c.in_ok-settle_under.was h loaded undoable.harmless undoable.owed
    within in
    settled_goes c.step_laws.ensures flashes c.args.journal.now (V c.args.rig.now)
    (V c.settle_under.new.rig)
    model loaded undoable (tt {0}) settles.keeps
    (g.met.R.Rig.model c.settle_under.new.rig settles.keeps.honest) settles.ok

pub returns-in_err-settle_under-clause-strays : goal.returns-in_err-settle_under-clause-strays
returns-in_err-settle_under-clause-strays g c h loaded harmless owed within =
    let V = g.R.Rig.view in
    let at = (goal.at.returns-in_err-settle_under-clause-strays g c).After-settle_under in
    let settles = settled g at _ c.in_err-settle_under.was h loaded harmless owed within in
    strays_stopped (V c.args.rig.now) (V c.settle_under.new.rig) settles.keeps
    (g.met.R.Rig.model c.settle_under.new.rig settles.keeps.honest) c.from_residual.result
    settles.fails c.from_residual.ensures.1

pub returns-clause-strays : goal.returns-clause-strays
returns-clause-strays g c h loaded harmless owed within =
    let V = g.R.Rig.view in
    let at = (goal.at.returns-clause-strays g c).After-settle_under in
    let settles = settled g at _ c.in_ok-settle_under.was h loaded harmless owed within in
    strays_settled (V c.args.rig.now) (V c.settle_under.new.rig) settles.keeps
    (g.met.R.Rig.model c.settle_under.new.rig settles.keeps.honest) (tt {0}) settles.ok

pub returns-in_err-settle_under-clause-calls : goal.returns-in_err-settle_under-clause-calls
returns-in_err-settle_under-clause-calls g c =
    sent_settling g (goal.at.returns-in_err-settle_under-clause-calls g c).After-settle_under

pub returns-clause-calls : goal.returns-clause-calls
returns-clause-calls g c = sent_settling g (goal.at.returns-clause-calls g c).After-settle_under

pub returns-clause-settled : goal.returns-clause-settled
returns-clause-settled g c =
    let V = g.R.Rig.view in
    let a = (V c.args.rig.now).calls in
    let b = (V c.settle_under.new.rig).calls in
    let at = (goal.at.returns-clause-settled g c).After-settle_under in
    let I : Option Intent → ℕ → Type 0 = λ o limit. GoesOn (EndsUnder o limit) a b in
    way_ends c.args.chip.now.kind c.args.journal.now.is_greeted (intent_of c.args.journal.now.state) a b
    (at_journal g at I c.in_ok-settle_under.ensures.settled)
