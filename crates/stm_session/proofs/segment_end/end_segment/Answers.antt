use Rattle.std.proofs.Common.{◌≢◌, ◌∷◌, [], List, ap, length, refl, inl, inr}
use Rattle.stm_journal.specs.declared.entry.Entry.TheVariants.{Ends}
use Rattle.stm_journal.proofs.Names.{Loaded}
use Rattle.stm_session.specs.declared.fault.Fault.TheVariants.{Unfinished}
use Rattle.stm_session.proofs.Names.{Adds, Are, Begin, closing, confirmed_at, fault_of_journal, IsClosedInPart, IsLookedAgain, state_at, Step}
use Rattle.stm_session.proofs.Closings.{behind_asking, ended, unasked, unended}
use Rattle.stm_session.proofs.Confirmed.{confirmed_steady}
use Rattle.stm_session.proofs.Confirmings.{is_finished}
use Rattle.stm_session.proofs.CutShort.{line_stops, part_stops, then_stops}
use Rattle.stm_session.proofs.Keeping.{good_at}
use Rattle.stm_session.proofs.LookingAgain.{does_closing}
use Rattle.stm_session.proofs.Orders.{does_add, does_then}
use Rattle.stm_session.proofs.Reaching.{at_fault}
use Rattle.stm_session.proofs.segment_end.end_segment.Goals as goal

pub returns-in_err-look_again-clause-named : goal.returns-in_err-look_again-clause-named
returns-in_err-look_again-clause-named g c = at_fault (λ e. e ≢ Unfinished) _ c.from_residual.result c.from_residual.ensures.1 (is_finished _ c.in_err-look_again.ensures.named)

pub returns-in_err-look_again-clause-stops : goal.returns-in_err-look_again-clause-stops
returns-in_err-look_again-clause-stops g c =
    let V = g.R.Rig.view in
    let chip = c.args.chip.now in
    let l = c.args.journal.now in
    let line : List Step = Adds (Ends (length l.state.stack) ∷ []) ∷ [] in
    part_stops (Begin (IsLookedAgain (confirmed_at chip))) (IsClosedInPart chip (Begin (Are line))) l.is_torn (V c.args.rig.now) (V c.look_again.new.rig) _ c.from_residual.result c.from_residual.ensures.1 (λ xs x. inl x) (c.in_err-look_again.ensures.stops l.is_torn)

pub returns-in_err-look_again-clause-honest : goal.returns-in_err-look_again-clause-honest
returns-in_err-look_again-clause-honest g c flashes steady chip =
    let V = g.R.Rig.view in
    let l = c.args.journal.now in
    unasked c.step_laws.ensures flashes l (V c.args.rig.now) (V c.look_again.new.rig) steady _ l _ c.from_residual.result (c.in_err-look_again.ensures.honest steady.honest steady.settled chip) c.from_residual.ensures.1

pub returns-in_err-end-clause-stops : goal.returns-in_err-end-clause-stops
returns-in_err-end-clause-stops g c =
    let V = g.R.Rig.view in
    let chip = c.args.chip.now in
    let l = c.args.journal.now in
    let a = V c.args.rig.now in
    let b = V c.look_again.new.rig in
    let line : List Step = Adds (Ends (length l.state.stack) ∷ []) ∷ [] in
    let e = c.in_err-end.field-0.0 in
    then_stops (Begin (Are line)) (IsClosedInPart chip (Begin (Are line))) (closing chip) l l a b (V c.end.new.rig) (fault_of_journal e) c.from_residual-in_err-end.result c.from_residual-in_err-end.ensures.1
    (does_closing chip l a b (c.in_ok-look_again.ensures.order l.is_torn)) (line_stops (Unit {0}) (Begin (Are line)) l.is_torn (Ends (length l.state.stack) ∷ []) e b (V c.end.new.rig) (line, refl) ([], refl) c.in_err-end.ensures.calls)
    (λ ys begun. inr (ys, refl, begun))

pub returns-in_err-end-clause-honest : goal.returns-in_err-end-clause-honest
returns-in_err-end-clause-honest g c flashes steady chip =
    let V = g.R.Rig.view in
    let l = c.args.journal.now in
    let a = V c.args.rig.now in
    let b = V c.look_again.new.rig in
    let laws = c.step_laws.ensures in
    let asks = c.in_ok-look_again.ensures.honest steady.honest steady.settled chip in
    let mid = confirmed_steady laws flashes l a b steady asks in
    behind_asking laws flashes l a b steady _ c.end.new.self (V c.end.new.rig) c.from_residual-in_err-end.result asks
    (unended laws flashes l b (g.met.R.Rig.model c.look_again.new.rig asks.honest) mid c.requires c.end.new.self c.end.new.self (V c.end.new.rig) _ c.from_residual-in_err-end.result (c.in_err-end.ensures.honest asks.honest mid.loaded)
    c.in_err-end.ensures.left c.from_residual-in_err-end.ensures.1)

pub returns-clause-order : goal.returns-clause-order
returns-clause-order g c =
    let V = g.R.Rig.view in
    let l = c.args.journal.now in
    let l2 = c.end.new.self in
    let a = V c.args.rig.now in
    let b = V c.look_again.new.rig in
    let d = V c.end.new.rig in
    let own = closing c.args.chip.now in
    does_then own (Adds (Ends (length l.state.stack) ∷ []) ∷ []) l l l2 a b d (does_closing c.args.chip.now l a b (c.in_ok-look_again.ensures.order l.is_torn))
    (does_add (tt {0}) (Ends (length l.state.stack) ∷ []) l l2 b d c.in_ok-end.ensures.calls (ap (λ (m : Loaded). m.is_torn) c.in_ok-end.ensures.after))

pub returns-clause-honest : goal.returns-clause-honest
returns-clause-honest g c flashes steady chip =
    let V = g.R.Rig.view in
    let l = c.args.journal.now in
    let l2 = c.end.new.self in
    let a = V c.args.rig.now in
    let b = V c.look_again.new.rig in
    let d = V c.end.new.rig in
    let laws = c.step_laws.ensures in
    let asks = c.in_ok-look_again.ensures.honest steady.honest steady.settled chip in
    let mid = confirmed_steady laws flashes l a b steady asks in
    let call = c.in_ok-end.ensures in
    let appends = call.honest asks.honest mid.loaded in
    let has = call.text asks.honest mid.loaded (state_at b.journal) (state_at d.journal) (good_at l b.journal mid.loaded) (good_at l2 d.journal appends.loaded) in
    behind_asking laws flashes l a b steady _ l2 d _ asks (ended laws flashes l b (g.met.R.Rig.model c.look_again.new.rig asks.honest) mid c.requires l2 d _ (tt {0}) appends call.after has)
