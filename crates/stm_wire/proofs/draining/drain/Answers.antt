use Rattle.std.proofs.Common.{◌≡◌, ◌||◌, ℕ, arith, refl, sym, ap, ◌∙◌, subst, eqb, Bool, Option, Some, [], ◌+◌}
use Rattle.stm_wire.specs.declared.fault.WireFault.TheVariants.{Garbled}
use Rattle.stm_wire.proofs.Names.{Floods, GetsFirst, GoesOn, nack, Never}
use Rattle.stm_wire.proofs.Talking.{went_nowhere, went_then, went_get, went_up, failed_then, failed_get, speaks_ok, speaks_line, speaks_other}
use Rattle.stm_wire.proofs.Keeping.{keeps_start, keeps_then, keeps_get, here, taken_more, taken_all}
use Rattle.stm_wire.proofs.SettlingCalls.{TookSoFar, took_nothing, took_more, took_all, adds_get}
use Rattle.stm_wire.proofs.SettlingFaults.{fails_garbled, floods}
use Rattle.stm_wire.proofs.draining.drain.Goals as goal
use Rattle.stm_wire.proofs.draining.drain.Goals.{then-seen, else-seen}

pub loop-taken-init : goal.loop-taken-init
loop-taken-init g c =
    let V = g.R.Rig.view in
    record {
      went = went_nowhere (V c.args.rig.now);
      brief = refl;
      took = took_nothing (V c.args.rig.now).calls;
      honest = λ h. h;
      taken = λ h. record { within = omega arith; is = refl };
      keeps = λ h byte pages start s. keeps_start byte pages start (V c.args.rig.now) (g.met.R.Rig.model c.args.rig.now h) h s;
    }

pub loop-taken-preserved : goal.loop-taken-preserved
loop-taken-preserved g c =
    let V = g.R.Rig.view in
    let i = c.loop-taken.invariant in
    let e = c.in_ok-get.ensures in
    let n = c.loop-taken._taken in
    let byte = c.in-Some.byte in
    let a = V c.args.rig.now in
    let b = V c.loop-taken.rig in
    let d = V c.get.new.self in
    let seen : (c.loop-taken.seen || eqb byte nack) ≡ c.if-seen.seen = elim c.if-seen.branch [ then-seen w ↦ ap (λ t. t || eqb byte nack) w.if-seen.true ∙ sym w.if-seen.true ∙ sym w.seen-is | else-seen w ↦ ap (λ t. t || eqb byte nack) w.if-seen.false ∙ sym w.seen-is ] in
    record {
      brief = e.aside.long_gets ∙ i.brief;
      went = went_then [] [] n 1 a b d i.went (went_get c.in_ok-get.field-0 b d e.cause e.journal_count e.recorded e.honest);
      took = subst (λ (t : Bool). GoesOn (TookSoFar (n + 1) t) a.calls d.calls) seen
          (took_more n c.loop-taken.seen byte a.calls b.calls d.calls i.took (adds_get c.in_ok-get.field-0 (Some byte) b.calls d.calls c.in-Some.is e.recorded));
      honest = λ h. (e.honest (i.honest h)).honest;
      taken = λ h. taken_more n byte a.device b.device d.device (i.taken h) (subst (λ (o : Option ℕ). GetsFirst o b.device d.device) c.in-Some.is (e.honest (i.honest h)).ok);
      keeps = λ h byte pages start s.
          let k = i.keeps h byte pages start s in
          let m = g.met.R.Rig.model c.loop-taken.rig (i.honest h) in
          keeps_then byte pages start a b d m k (keeps_get byte pages start c.get.result b d m (here byte pages start a b m k).1 (c.get.ensures.honest (i.honest h)));
    }

pub returns-in_err-get-clause-speaks : goal.returns-in_err-get-clause-speaks
returns-in_err-get-clause-speaks g c =
    let V = g.R.Rig.view in
    let e = c.in_err-get.ensures in
    let n = c.loop-taken._taken in
    speaks_line [] [] (n + 1) 4097 c.from_residual.result (V c.args.rig.now) (V c.get.new.self) (omega (arith, c.loop-taken-test.true))
    (failed_then [] [] n 1 (V c.args.rig.now) (V c.loop-taken.rig) (V c.get.new.self) c.loop-taken.invariant.went (failed_get c.in_err-get.field-0.0 (V c.loop-taken.rig) (V c.get.new.self) e.cause e.journal_count e.recorded e.honest))
    c.from_residual.ensures.1

pub returns-in-None-clause-speaks : goal.returns-in-None-clause-speaks
returns-in-None-clause-speaks g c =
    let V = g.R.Rig.view in
    let e = c.in_ok-get.ensures in
    let n = c.loop-taken._taken in
    speaks_ok [] 4097 c.loop-taken.seen (V c.args.rig.now) (V c.get.new.self) (went_up [] (n + 1) 4097 (V c.args.rig.now) (V c.get.new.self) (omega (arith, c.loop-taken-test.true))
    (went_then [] [] n 1 (V c.args.rig.now) (V c.loop-taken.rig) (V c.get.new.self) c.loop-taken.invariant.went (went_get c.in_ok-get.field-0 (V c.loop-taken.rig) (V c.get.new.self) e.cause e.journal_count e.recorded e.honest)))

pub returns-clause-speaks : goal.returns-clause-speaks
returns-clause-speaks g c =
    let V = g.R.Rig.view in
    speaks_other [] [] c.loop-taken._taken 4097 Garbled (V c.args.rig.now) (V c.loop-taken.rig) (omega (arith, c.loop-taken.auto)) (λ e. cc) c.loop-taken.invariant.went

pub returns-in_err-get-clause-keeps : goal.returns-in_err-get-clause-keeps
returns-in_err-get-clause-keeps g c h byte pages start s =
    let V = g.R.Rig.view in
    let i = c.loop-taken.invariant in
    let k = i.keeps h byte pages start s in
    let m = g.met.R.Rig.model c.loop-taken.rig (i.honest h) in
    keeps_then byte pages start (V c.args.rig.now) (V c.loop-taken.rig) (V c.get.new.self) m k
    (keeps_get byte pages start c.get.result (V c.loop-taken.rig) (V c.get.new.self) m (here byte pages start (V c.args.rig.now) (V c.loop-taken.rig) m k).1 (c.get.ensures.honest (i.honest h)))

pub returns-in-None-clause-keeps : goal.returns-in-None-clause-keeps
returns-in-None-clause-keeps g c h byte pages start s =
    let V = g.R.Rig.view in
    let i = c.loop-taken.invariant in
    let k = i.keeps h byte pages start s in
    let m = g.met.R.Rig.model c.loop-taken.rig (i.honest h) in
    keeps_then byte pages start (V c.args.rig.now) (V c.loop-taken.rig) (V c.get.new.self) m k
    (keeps_get byte pages start c.get.result (V c.loop-taken.rig) (V c.get.new.self) m (here byte pages start (V c.args.rig.now) (V c.loop-taken.rig) m k).1 (c.get.ensures.honest (i.honest h)))

pub returns-in-None-clause-drained : goal.returns-in-None-clause-drained
returns-in-None-clause-drained g c =
    let V = g.R.Rig.view in
    let a = (V c.args.rig.now).calls in
    let b = (V c.loop-taken.rig).calls in
    let d = (V c.get.new.self).calls in
    took_all c.loop-taken._taken c.loop-taken.seen a b d c.loop-taken.invariant.took (adds_get c.in_ok-get.field-0 _ b d c.in-None.is c.in_ok-get.ensures.recorded)

pub returns-in-None-clause-empty : goal.returns-in-None-clause-empty
returns-in-None-clause-empty g c h =
    let V = g.R.Rig.view in
    let i = c.loop-taken.invariant in
    let a = (V c.args.rig.now).device in
    let b = (V c.loop-taken.rig).device in
    let d = (V c.get.new.self).device in
    taken_all c.loop-taken._taken a b d (i.taken h) (subst (λ (o : Option ℕ). GetsFirst o b d) c.in-None.is (c.in_ok-get.ensures.honest (i.honest h)).ok)

pub returns-clause-fails : goal.returns-clause-fails
returns-clause-fails g c =
    let V = g.R.Rig.view in
    let a = (V c.args.rig.now).calls in
    let b = (V c.loop-taken.rig).calls in
    fails_garbled Never Floods a b (floods c.loop-taken.seen a b c.loop-taken._taken (omega (arith, c.loop-taken-test.false, c.loop-taken.auto)) c.loop-taken.invariant.took)
