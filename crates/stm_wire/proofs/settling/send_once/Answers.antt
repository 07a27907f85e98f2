use Rattle.std.proofs.Common.{rules, ℕ, subst, Bool, Option, Some, None, Result, Err, [], ◌∷◌, lit≤, false, eqb}
use Rattle.stm_wire.proofs.Names.{Floods, Get, GetsFirst, Never, Put, WireFault}
use Rattle.stm_wire.proofs.Keeping.{keeps_then, keeps_get, here, going_put, once_none, once_some}
use Rattle.stm_wire.proofs.Going.{step}
use Rattle.stm_wire.proofs.Talking.{went_then, went_up, failed_put, speaks_ok, speaks_line, speaks_then, speaks_fault, speaks_went, went_both}
use Rattle.stm_wire.proofs.SettlingCalls.{adds_both, unrefused_silence, refused_or_not}
use Rattle.stm_wire.proofs.SettlingFaults.{fails_on, adds_before, floods_before}
use Rattle.stm_wire.proofs.settling.send_once.Goals as goal

pub returns-in_err-put-clause-once : goal.returns-in_err-put-clause-once
returns-in_err-put-clause-once g c h pages start left going =
    let V = g.R.Rig.view in
    record {
      keeps = going_put c.args.byte pages start left c.put.result (V c.args.rig.now) (V c.put.new.self) (g.met.R.Rig.model c.args.rig.now h) (c.ranges.byte.fits) going (c.put.ensures.honest h);
      ok = search rules;
      fails = search rules;
    }

pub returns-in_err-get-clause-once : goal.returns-in_err-get-clause-once
returns-in_err-get-clause-once g c h pages start left going =
    let V = g.R.Rig.view in
    let a = V c.args.rig.now in
    let b = V c.put.new.self in
    let small = c.ranges.byte.fits in
    let ma = g.met.R.Rig.model c.args.rig.now h in
    let p = c.in_ok-put.ensures.honest h in
    let one = going_put c.args.byte pages start left c.put.result a b ma small going (c.put.ensures.honest h) in
    let mb = g.met.R.Rig.model c.put.new.self one.honest in
    let s = step c.args.byte pages start left a.device b.device ma.device small going p.ok.0 in
    let d = V c.get.new.self in
    let got = c.get.ensures.honest one.honest in
    let two = keeps_then c.args.byte pages start a b d mb one (keeps_get c.args.byte pages start c.get.result b d mb s.settling got) in
    record { keeps = two; ok = search rules; fails = search rules }

pub returns-in_err-drain-in-Some-clause-once : goal.returns-in_err-drain-in-Some-clause-once
returns-in_err-drain-in-Some-clause-once g c h pages start left going =
    let V = g.R.Rig.view in
    let a = V c.args.rig.now in
    let b = V c.put.new.self in
    let small = c.ranges.byte.fits in
    let ma = g.met.R.Rig.model c.args.rig.now h in
    let p = c.in_ok-put.ensures.honest h in
    let one = going_put c.args.byte pages start left c.put.result a b ma small going (c.put.ensures.honest h) in
    let mb = g.met.R.Rig.model c.put.new.self one.honest in
    let s = step c.args.byte pages start left a.device b.device ma.device small going p.ok.0 in
    let d = V c.get.new.self in
    let got = c.get.ensures.honest one.honest in
    let two = keeps_then c.args.byte pages start a b d mb one (keeps_get c.args.byte pages start c.get.result b d mb s.settling got) in
    let md = g.met.R.Rig.model c.get.new.self two.honest in
    let t = c.in_ok-get.ensures.honest one.honest in
    let e = V c.drain.new.rig in
    let three = keeps_then c.args.byte pages start a d e md two (c.drain.ensures.keeps two.honest c.args.byte pages start (here c.args.byte pages start a d md two).1) in
    let few = (here c.args.byte pages start a d md two).1.owed in
    let line = c.in_err-drain-in-Some.ensures.line two.honest few in
    record { keeps = three; ok = search rules; fails = search (rules, line) }

pub returns-in-None-clause-once : goal.returns-in-None-clause-once
returns-in-None-clause-once g c h pages start left going =
    let V = g.R.Rig.view in
    let a = V c.args.rig.now in
    let b = V c.put.new.self in
    let small = c.ranges.byte.fits in
    let ma = g.met.R.Rig.model c.args.rig.now h in
    let p = c.in_ok-put.ensures.honest h in
    let one = going_put c.args.byte pages start left c.put.result a b ma small going (c.put.ensures.honest h) in
    let mb = g.met.R.Rig.model c.put.new.self one.honest in
    let s = step c.args.byte pages start left a.device b.device ma.device small going p.ok.0 in
    let d = V c.get.new.self in
    let got = c.get.ensures.honest one.honest in
    let two = keeps_then c.args.byte pages start a b d mb one (keeps_get c.args.byte pages start c.get.result b d mb s.settling got) in
    let q = c.in_ok-get.ensures.honest one.honest in
    record {
      keeps = two;
      ok = once_none c.args.byte pages start left b.device d.device s (subst (λ (o : Option ℕ). GetsFirst o b.device d.device) c.in-None.is q.ok);
      fails = search rules;
    }

pub returns-in_ok-drain-in-Some-clause-once : goal.returns-in_ok-drain-in-Some-clause-once
returns-in_ok-drain-in-Some-clause-once g c h pages start left going =
    let V = g.R.Rig.view in
    let a = V c.args.rig.now in
    let b = V c.put.new.self in
    let small = c.ranges.byte.fits in
    let ma = g.met.R.Rig.model c.args.rig.now h in
    let p = c.in_ok-put.ensures.honest h in
    let one = going_put c.args.byte pages start left c.put.result a b ma small going (c.put.ensures.honest h) in
    let mb = g.met.R.Rig.model c.put.new.self one.honest in
    let s = step c.args.byte pages start left a.device b.device ma.device small going p.ok.0 in
    let d = V c.get.new.self in
    let got = c.get.ensures.honest one.honest in
    let two = keeps_then c.args.byte pages start a b d mb one (keeps_get c.args.byte pages start c.get.result b d mb s.settling got) in
    let md = g.met.R.Rig.model c.get.new.self two.honest in
    let t = c.in_ok-get.ensures.honest one.honest in
    let e = V c.drain.new.rig in
    let three = keeps_then c.args.byte pages start a d e md two (c.drain.ensures.keeps two.honest c.args.byte pages start (here c.args.byte pages start a d md two).1) in
    record {
      keeps = three;
      ok = once_some c.args.byte pages start left c.in-Some.first b.device d.device e.device s (subst (λ (o : Option ℕ). GetsFirst o b.device d.device) c.in-Some.is t.ok) (c.in_ok-drain-in-Some.ensures.empty two.honest);
      fails = search rules;
    }

pub returns-in_err-put-clause-speaks : goal.returns-in_err-put-clause-speaks
returns-in_err-put-clause-speaks g c =
    let V = g.R.Rig.view in
    let e = c.in_err-put.ensures in
    let byte = c.args.byte in
    speaks_line (byte ∷ []) [] 1 4099 c.from_residual.result (V c.args.rig.now) (V c.put.new.self) (lit≤ tt) (failed_put (Unit {0}) byte c.in_err-put.field-0.0 (V c.args.rig.now) (V c.put.new.self) e.cause e.journal_count e.recorded e.honest) c.from_residual.ensures.1

pub returns-in-None-clause-speaks : goal.returns-in-None-clause-speaks
returns-in-None-clause-speaks g c =
    let V = g.R.Rig.view in
    let e = c.in_ok-put.ensures in
    let f = c.in_ok-get.ensures in
    let byte = c.args.byte in
    let u : Unit {0} = tt in
    let two = went_both byte u c.in_ok-get.field-0 (V c.args.rig.now) (V c.put.new.self) (V c.get.new.self) e.cause e.journal_count e.recorded f.cause f.journal_count f.recorded e.honest f.honest in
    speaks_ok (byte ∷ []) 4099 false (V c.args.rig.now) (V c.get.new.self) (went_up (byte ∷ []) 2 4099 (V c.args.rig.now) (V c.get.new.self) (lit≤ tt) two)

pub returns-in_err-drain-in-Some-clause-speaks : goal.returns-in_err-drain-in-Some-clause-speaks
returns-in_err-drain-in-Some-clause-speaks g c =
    let V = g.R.Rig.view in
    let e = c.in_ok-put.ensures in
    let f = c.in_ok-get.ensures in
    let byte = c.args.byte in
    let u : Unit {0} = tt in
    let two = went_both byte u c.in_ok-get.field-0 (V c.args.rig.now) (V c.put.new.self) (V c.get.new.self) e.cause e.journal_count e.recorded f.cause f.journal_count f.recorded e.honest f.honest in
    let fault = c.in_err-drain-in-Some.field-0.0 in
    let failed : Result Bool WireFault = Err fault in
    speaks_fault (byte ∷ []) [] 4099 4099 fault c.from_residual-in_err-drain-in-Some.result (V c.args.rig.now) (V c.drain.new.rig) (lit≤ tt) c.from_residual-in_err-drain-in-Some.ensures.1
    (speaks_then (byte ∷ []) [] 2 4097 failed (V c.args.rig.now) (V c.get.new.self) (V c.drain.new.rig) two c.in_err-drain-in-Some.ensures.speaks)

pub returns-in_ok-drain-in-Some-clause-speaks : goal.returns-in_ok-drain-in-Some-clause-speaks
returns-in_ok-drain-in-Some-clause-speaks g c =
    let V = g.R.Rig.view in
    let e = c.in_ok-put.ensures in
    let f = c.in_ok-get.ensures in
    let byte = c.args.byte in
    let u : Unit {0} = tt in
    let two = went_both byte u c.in_ok-get.field-0 (V c.args.rig.now) (V c.put.new.self) (V c.get.new.self) e.cause e.journal_count e.recorded f.cause f.journal_count f.recorded e.honest f.honest in
    speaks_ok (byte ∷ []) 4099 (eqb c.in-Some.first 31) (V c.args.rig.now) (V c.drain.new.rig)
    (went_then (byte ∷ []) [] 2 4097 (V c.args.rig.now) (V c.get.new.self) (V c.drain.new.rig) two (speaks_went [] 4097 c.in_ok-drain-in-Some.field-0 (V c.get.new.self) (V c.drain.new.rig) c.in_ok-drain-in-Some.ensures.speaks))

pub returns-in-None-clause-refused : goal.returns-in-None-clause-refused
returns-in-None-clause-refused g c =
    let V = g.R.Rig.view in
    let u : Unit {0} = tt in
    let a = (V c.args.rig.now).calls in
    let d = (V c.get.new.self).calls in
    unrefused_silence c.args.byte a d (adds_both c.args.byte u c.in_ok-get.field-0 None a (V c.put.new.self).calls d c.in-None.is c.in_ok-put.ensures.recorded c.in_ok-get.ensures.recorded)

pub returns-in_ok-drain-in-Some-clause-refused : goal.returns-in_ok-drain-in-Some-clause-refused
returns-in_ok-drain-in-Some-clause-refused g c =
    let V = g.R.Rig.view in
    let u : Unit {0} = tt in
    let first = c.in-Some.first in
    let a = (V c.args.rig.now).calls in
    let d = (V c.get.new.self).calls in
    let both = adds_both c.args.byte u c.in_ok-get.field-0 (Some first) a (V c.put.new.self).calls d c.in-Some.is c.in_ok-put.ensures.recorded c.in_ok-get.ensures.recorded in
    refused_or_not c.args.byte first c.in_ok-drain-in-Some.field-0 a d (V c.drain.new.rig).calls both c.in_ok-drain-in-Some.ensures.drained

pub returns-in_err-drain-in-Some-clause-fails : goal.returns-in_err-drain-in-Some-clause-fails
returns-in_err-drain-in-Some-clause-fails g c =
    let V = g.R.Rig.view in
    let u : Unit {0} = tt in
    let first = c.in-Some.first in
    let a = (V c.args.rig.now).calls in
    let d = (V c.get.new.self).calls in
    let e = (V c.drain.new.rig).calls in
    let both = adds_both c.args.byte u c.in_ok-get.field-0 (Some first) a (V c.put.new.self).calls d c.in-Some.is c.in_ok-put.ensures.recorded c.in_ok-get.ensures.recorded in
    let head = Put c.args.byte ∷ Get (Some first) ∷ [] in
    fails_on Never Floods Never Floods d e a e c.in_err-drain-in-Some.field-0.0 c.from_residual-in_err-drain-in-Some.result
    (λ p. adds_before head Never Never a d e both p (λ vs v. v)) (λ p. adds_before head Floods Floods a d e both p (floods_before head))
    c.in_err-drain-in-Some.ensures.fails c.from_residual-in_err-drain-in-Some.ensures.1
