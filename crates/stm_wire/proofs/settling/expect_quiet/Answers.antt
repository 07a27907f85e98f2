use Rattle.std.proofs.Common.{rules, ℕ, ◌∷◌, subst, refl, Option, Some, None, [], arith}
use Rattle.stm_wire.proofs.Names.{Get, GetsFirst, IsAnswer, Never}
use Rattle.stm_wire.proofs.Keeping.{keeps_get, not_owed}
use Rattle.stm_wire.specs.declared.fault.WireFault.TheVariants.{Garbled}
use Rattle.stm_wire.proofs.Talking.{went_get, failed_get, speaks_ok, speaks_line, speaks_other}
use Rattle.stm_wire.proofs.SettlingCalls.{adds_get}
use Rattle.stm_wire.proofs.SettlingFaults.{fails_garbled}
use Rattle.stm_wire.proofs.Turns.{Adds-GoesOn}
use Rattle.stm_wire.proofs.settling.expect_quiet.Goals as goal

pub returns-in_err-get-clause-honest : goal.returns-in_err-get-clause-honest
returns-in_err-get-clause-honest g c h byte pages start s quiet =
    let V = g.R.Rig.view in
    record {
      keeps = keeps_get byte pages start c.get.result (V c.args.rig.now) (V c.get.new.self) (g.met.R.Rig.model c.args.rig.now h) s (c.get.ensures.honest h);
      ok = search rules;
      fails = search rules;
    }

pub returns-in-None-clause-honest : goal.returns-in-None-clause-honest
returns-in-None-clause-honest g c h byte pages start s quiet =
    let V = g.R.Rig.view in
    let t = subst (λ (o : Option ℕ). GetsFirst o (V c.args.rig.now).device (V c.get.new.self).device) c.in-None.is (c.in_ok-get.ensures.honest h).ok in
    record {
      keeps = keeps_get byte pages start c.get.result (V c.args.rig.now) (V c.get.new.self) (g.met.R.Rig.model c.args.rig.now h) s (c.get.ensures.honest h);
      ok = t.1;
      fails = search rules;
    }

pub returns-in-Some-clause-honest : goal.returns-in-Some-clause-honest
returns-in-Some-clause-honest g c h byte pages start s quiet =
    let V = g.R.Rig.view in
    absurd (not_owed c.in-Some.field-0 (V c.args.rig.now).device (V c.get.new.self).device quiet
    (subst (λ (o : Option ℕ). GetsFirst o (V c.args.rig.now).device (V c.get.new.self).device) c.in-Some.is (c.in_ok-get.ensures.honest h).ok))

pub returns-in_err-get-clause-speaks : goal.returns-in_err-get-clause-speaks
returns-in_err-get-clause-speaks g c =
    let V = g.R.Rig.view in
    let e = c.in_err-get.ensures in
    speaks_line [] [] 1 1 c.from_residual.result (V c.args.rig.now) (V c.get.new.self) (omega arith) (failed_get c.in_err-get.field-0.0 (V c.args.rig.now) (V c.get.new.self) e.cause e.journal_count e.recorded e.honest) c.from_residual.ensures.1

pub returns-in-None-clause-speaks : goal.returns-in-None-clause-speaks
returns-in-None-clause-speaks g c =
    let V = g.R.Rig.view in
    let e = c.in_ok-get.ensures in
    speaks_ok [] 1 tt (V c.args.rig.now) (V c.get.new.self) (went_get c.in_ok-get.field-0 (V c.args.rig.now) (V c.get.new.self) e.cause e.journal_count e.recorded e.honest)

pub returns-in-Some-clause-speaks : goal.returns-in-Some-clause-speaks
returns-in-Some-clause-speaks g c =
    let V = g.R.Rig.view in
    let e = c.in_ok-get.ensures in
    speaks_other [] [] 1 1 Garbled (V c.args.rig.now) (V c.get.new.self) (omega arith) (λ e. cc) (went_get c.in_ok-get.field-0 (V c.args.rig.now) (V c.get.new.self) e.cause e.journal_count e.recorded e.honest)

pub returns-in-None-clause-quiet : goal.returns-in-None-clause-quiet
returns-in-None-clause-quiet g c =
    let V = g.R.Rig.view in
    adds_get c.in_ok-get.field-0 None (V c.args.rig.now).calls (V c.get.new.self).calls c.in-None.is c.in_ok-get.ensures.recorded

pub returns-in-Some-clause-fails : goal.returns-in-Some-clause-fails
returns-in-Some-clause-fails g c =
    let V = g.R.Rig.view in
    let a = (V c.args.rig.now).calls in
    let b = (V c.get.new.self).calls in
    let x = c.in-Some.field-0 in
    fails_garbled Never IsAnswer a b (Adds-GoesOn IsAnswer (Get (Some x) ∷ []) a b (adds_get c.in_ok-get.field-0 (Some x) a b c.in-Some.is c.in_ok-get.ensures.recorded) (x, refl))
