use Rattle.std.proofs.Common.{◌≡◌, inl, inr, Bool, [], Option, Some, refl, sym, ◌∙◌, subst}
use Rattle.std.specs.Prelude.{◌⊎◌}
use Rattle.std.proofs.lemmas.Bool.{true≢false}
use Rattle.stm_wire.specs.declared.places.UniquePlace.{UniquePlace}
use Rattle.stm_wire.proofs.Names.{GoesOn, IsPart}
use Rattle.stm_wire.specs.lemmas.DialogueLaws.{GoesOn-nothing}
use Rattle.stm_wire.specs.lemmas.PartLaws.{nothing_is_part}
use Rattle.stm_session.specs.declared.fault.Fault.TheVariants.{BoardChanged}
use Rattle.stm_session.proofs.Names.{Begin, Cause, cause_of, confirm_steps, confirmed_at, IsConfirming, IsInOrder, IsOfLine, most_of_confirming, of_refusal, StopsBy, TellsAgain}
use Rattle.stm_session.proofs.Asking.{asks_failed, asks_ok, nothing_asked}
use Rattle.stm_session.specs.lemmas.ClosingLaws.{place_known}
use Rattle.stm_session.proofs.Confirmings.{has_again}
use Rattle.stm_session.proofs.CutShort.{begin_all, by_fault, halts}
use Rattle.stm_session.proofs.Reaching.{at_fault}
use Rattle.stm_session.proofs.Sending.{same_fault}
use Rattle.stm_session.proofs.confirming.confirm.Goals as goal

pub returns-in_default-clause-puts : goal.returns-in_default-clause-puts
returns-in_default-clause-puts g c = nothing_is_part (Some c.args.chip.now) _ most_of_confirming (g.R.Rig.view c.args.rig.now).calls

pub returns-in_default-clause-order : goal.returns-in_default-clause-order
returns-in_default-clause-order g c torn =
    let a = (g.R.Rig.view c.args.rig.now).calls in
    let P : Option UniquePlace → Type 0 = λ p. GoesOn (IsInOrder torn (confirm_steps p c.args.chip.now.unique)) a a in
    subst P c.in_default.ensures.place (GoesOn-nothing (IsInOrder torn []) a refl)

pub returns-in_default-clause-honest : goal.returns-in_default-clause-honest
returns-in_default-clause-honest g c h settled chip =
    nothing_asked c.sending_is_harmless.ensures.asking (g.R.Rig.view c.args.rig.now) _ _ h (g.met.R.Rig.model c.args.rig.now h) settled tt

pub returns-in_err-is_same-clause-puts : goal.returns-in_err-is_same-clause-puts
returns-in_err-is_same-clause-puts g c =
    let V = g.R.Rig.view in
    let chip = c.args.chip.now in
    let known = (place_known chip.places.unique chip.unique c.in-Some.place (sym c.in-Some.ensures.place)).0 in
    let P : Bool → Type 0 = λ w. GoesOn (IsPart (Some chip) w most_of_confirming) (V c.args.rig.now).calls (V c.is_told_again.new.rig).calls in
    same_fault P _ c.from_residual.result c.from_residual.ensures.1 (c.in_err-is_same.ensures.puts known)

pub returns-in_err-is_same-clause-stops : goal.returns-in_err-is_same-clause-stops
returns-in_err-is_same-clause-stops g c torn =
    let V = g.R.Rig.view in
    let a = V c.args.rig.now in
    let b = V c.is_told_again.new.rig in
    let e = c.in_err-is_same.field-0.0 in
    let S : Option UniquePlace → Type 0 = λ p. StopsBy (Begin (IsConfirming p)) (cause_of e) torn a b in
    by_fault (λ (k : Cause). StopsBy (Begin (IsConfirming (confirmed_at c.args.chip.now))) k torn a b) e c.from_residual.result c.from_residual.ensures.1 (subst S c.in-Some.ensures.place (c.in_err-is_same.ensures.stops torn))

pub returns-in_err-is_same-clause-named : goal.returns-in_err-is_same-clause-named
returns-in_err-is_same-clause-named g c = at_fault (λ e. IsOfLine e ⊎ (e ≡ BoardChanged)) _ c.from_residual.result c.from_residual.ensures.1 (inl c.in_err-is_same.ensures.sent)

pub returns-in_err-is_same-clause-honest : goal.returns-in_err-is_same-clause-honest
returns-in_err-is_same-clause-honest g c h settled chip =
    let V = g.R.Rig.view in
    asks_failed (V c.args.rig.now) (V c.is_told_again.new.rig) _ c.from_residual.result (c.in_err-is_same.ensures.honest h settled) c.from_residual.ensures.1

pub returns-then-is_same-clause-puts : goal.returns-then-is_same-clause-puts
returns-then-is_same-clause-puts g c =
    let chip = c.args.chip.now in
    c.in_ok-is_same.ensures.puts (place_known chip.places.unique chip.unique c.in-Some.place (sym c.in-Some.ensures.place)).0

pub returns-then-is_same-clause-order : goal.returns-then-is_same-clause-order
returns-then-is_same-clause-order g c torn =
    let V = g.R.Rig.view in
    let a = V c.args.rig.now in
    let b = V c.is_told_again.new.rig in
    let unique = c.args.chip.now.unique in
    let T : Bool → Type 0 = λ s. TellsAgain s c.in-Some.place unique torn a b in
    let P : Option UniquePlace → Type 0 = λ p. GoesOn (IsInOrder torn (confirm_steps p unique)) a.calls b.calls in
    subst P c.in-Some.ensures.place (subst T c.if-is_same.true (c.in_ok-is_same.ensures.order torn))

pub returns-then-is_same-clause-honest : goal.returns-then-is_same-clause-honest
returns-then-is_same-clause-honest g c h settled chip =
    let V = g.R.Rig.view in
    asks_ok (V c.args.rig.now) (V c.is_told_again.new.rig) _ _ (c.in_ok-is_same.ensures.honest h settled) (λ done. tt)

pub returns-else-is_same-clause-puts : goal.returns-else-is_same-clause-puts
returns-else-is_same-clause-puts g c =
    let chip = c.args.chip.now in
    c.in_ok-is_same.ensures.puts (place_known chip.places.unique chip.unique c.in-Some.place (sym c.in-Some.ensures.place)).0

pub returns-else-is_same-clause-stops : goal.returns-else-is_same-clause-stops
returns-else-is_same-clause-stops g c torn =
    let V = g.R.Rig.view in
    let a = V c.args.rig.now in
    let b = V c.is_told_again.new.rig in
    let T : Bool → Type 0 = λ s. TellsAgain s c.in-Some.place c.args.chip.now.unique torn a b in
    let other = subst T c.if-is_same.false (c.in_ok-is_same.ensures.order torn) in
    let S : Option UniquePlace → Type 0 = λ p. StopsBy (Begin (IsConfirming p)) of_refusal torn a b in
    let Q = IsConfirming (Some c.in-Some.place) in
    subst S c.in-Some.ensures.place (halts (Begin Q) of_refusal torn other.0 a b (begin_all Q other.0 other.1) refl other.2)

pub returns-else-is_same-clause-named : goal.returns-else-is_same-clause-named
returns-else-is_same-clause-named g c = inr refl

pub returns-else-is_same-clause-honest : goal.returns-else-is_same-clause-honest
returns-else-is_same-clause-honest g c h settled chip =
    let own = c.args.chip.now in
    let asks = c.in_ok-is_same.ensures.honest h settled in
    absurd (true≢false (sym (asks.done (has_again own (g.R.Rig.view c.args.rig.now).device.chip c.in-Some.place chip (sym c.in-Some.ensures.place))) ∙ c.if-is_same.false))
