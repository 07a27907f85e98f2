use Rattle.std.proofs.Common.{rules, ℕ, refl, ◌∙◌, ap, subst, Option, Some, None, [], ◌∷◌, lit≤}
use Rattle.stm_wire.proofs.Names.{ack, Device, Get, GetsFirst, IsNoAck, IsUnanswered, Put, with_nothing_owed}
use Rattle.stm_wire.proofs.Keeping.{keeps_get, keeps_then, keeps_put, here, taken_one, connected}
use Rattle.stm_wire.proofs.Going.{settling_connects}
use Rattle.stm_wire.specs.declared.fault.WireFault.TheVariants.{Garbled, Quiet}
use Rattle.stm_wire.proofs.Talking.{went_put, failed_put, failed_then, failed_get, speaks_ok, speaks_line, speaks_other, went_both}
use Rattle.stm_wire.proofs.SettlingCalls.{adds_both}
use Rattle.stm_wire.proofs.SettlingFaults.{fails_quiet, fails_garbled}
use Rattle.stm_wire.proofs.Turns.{Adds-GoesOn}
use Rattle.stm_wire.proofs.settling.send_connect.Goals as goal

pub returns-in_err-put-clause-honest : goal.returns-in_err-put-clause-honest
returns-in_err-put-clause-honest g c h byte pages start s at quiet =
    let V = g.R.Rig.view in
    let a = V c.args.rig.now in
    let b = V c.put.new.self in
    let ma = g.met.R.Rig.model c.args.rig.now h in
    let one = keeps_put byte 0x7F pages start c.put.result a b ma s (λ d f. settling_connects byte pages start a.device d ma.device s at quiet f) (c.put.ensures.honest h) in
    record { keeps = one; ok = search rules; fails = search rules }

pub returns-in_err-get-clause-honest : goal.returns-in_err-get-clause-honest
returns-in_err-get-clause-honest g c h byte pages start s at quiet =
    let V = g.R.Rig.view in
    let a = V c.args.rig.now in
    let b = V c.put.new.self in
    let ma = g.met.R.Rig.model c.args.rig.now h in
    let one = keeps_put byte 0x7F pages start c.put.result a b ma s (λ d f. settling_connects byte pages start a.device d ma.device s at quiet f) (c.put.ensures.honest h) in
    let is = connected a.device b.device at quiet ((c.in_ok-put.ensures.honest h).ok.0) in
    let mb = g.met.R.Rig.model c.put.new.self one.honest in
    let sb = (here byte pages start a b mb one).1 in
    let d = V c.get.new.self in
    let two = keeps_then byte pages start a b d mb one (keeps_get byte pages start c.get.result b d mb sb (c.get.ensures.honest one.honest)) in
    record { keeps = two; ok = search rules; fails = search rules }

pub returns-in-Some-eq121-clause-honest : goal.returns-in-Some-eq121-clause-honest
returns-in-Some-eq121-clause-honest g c h byte pages start s at quiet =
    let V = g.R.Rig.view in
    let a = V c.args.rig.now in
    let b = V c.put.new.self in
    let ma = g.met.R.Rig.model c.args.rig.now h in
    let one = keeps_put byte 0x7F pages start c.put.result a b ma s (λ d f. settling_connects byte pages start a.device d ma.device s at quiet f) (c.put.ensures.honest h) in
    let is = connected a.device b.device at quiet ((c.in_ok-put.ensures.honest h).ok.0) in
    let mb = g.met.R.Rig.model c.put.new.self one.honest in
    let sb = (here byte pages start a b mb one).1 in
    let d = V c.get.new.self in
    let two = keeps_then byte pages start a b d mb one (keeps_get byte pages start c.get.result b d mb sb (c.get.ensures.honest one.honest)) in
    let got = taken_one ack b.device d.device (ap (λ (x : Device). x.owed) is) c.in-Some-eq121.field-0 (subst (λ (o : Option ℕ). GetsFirst o b.device d.device) c.in-Some-eq121.is (c.in_ok-get.ensures.honest one.honest).ok) in
    record { keeps = two; ok = got.1 ∙ ap with_nothing_owed is; fails = search rules }

pub returns-in_err-put-clause-speaks : goal.returns-in_err-put-clause-speaks
returns-in_err-put-clause-speaks g c =
    let V = g.R.Rig.view in
    let e = c.in_err-put.ensures in
    speaks_line (0x7F ∷ []) [] 1 2 c.from_residual.result (V c.args.rig.now) (V c.put.new.self) (lit≤ tt) (failed_put (Unit {0}) 0x7F c.in_err-put.field-0.0 (V c.args.rig.now) (V c.put.new.self) e.cause e.journal_count e.recorded e.honest) c.from_residual.ensures.1

pub returns-in_err-get-clause-speaks : goal.returns-in_err-get-clause-speaks
returns-in_err-get-clause-speaks g c =
    let V = g.R.Rig.view in
    let e = c.in_ok-put.ensures in
    let f = c.in_err-get.ensures in
    let u : Unit {0} = tt in
    let a = V c.args.rig.now in
    let b = V c.put.new.self in
    let d = V c.get.new.self in
    speaks_line (0x7F ∷ []) [] 2 2 c.from_residual-in_err-get.result a d (lit≤ tt)
    (failed_then (0x7F ∷ []) [] 1 1 a b d (went_put 0x7F u a b e.cause e.journal_count e.recorded e.honest) (failed_get c.in_err-get.field-0.0 b d f.cause f.journal_count f.recorded f.honest)) c.from_residual-in_err-get.ensures.1

pub returns-in-Some-eq121-clause-speaks : goal.returns-in-Some-eq121-clause-speaks
returns-in-Some-eq121-clause-speaks g c =
    let V = g.R.Rig.view in
    let e = c.in_ok-put.ensures in
    let f = c.in_ok-get.ensures in
    let u : Unit {0} = tt in
    speaks_ok (0x7F ∷ []) 2 u (V c.args.rig.now) (V c.get.new.self)
    (went_both 0x7F u c.in_ok-get.field-0 (V c.args.rig.now) (V c.put.new.self) (V c.get.new.self) e.cause e.journal_count e.recorded f.cause f.journal_count f.recorded e.honest f.honest)

pub returns-in-Some-clause-speaks : goal.returns-in-Some-clause-speaks
returns-in-Some-clause-speaks g c =
    let V = g.R.Rig.view in
    let e = c.in_ok-put.ensures in
    let f = c.in_ok-get.ensures in
    let u : Unit {0} = tt in
    speaks_other (0x7F ∷ []) [] 2 2 Garbled (V c.args.rig.now) (V c.get.new.self) (lit≤ tt) (λ same. cc)
    (went_both 0x7F u c.in_ok-get.field-0 (V c.args.rig.now) (V c.put.new.self) (V c.get.new.self) e.cause e.journal_count e.recorded f.cause f.journal_count f.recorded e.honest f.honest)

pub returns-in-None-clause-speaks : goal.returns-in-None-clause-speaks
returns-in-None-clause-speaks g c =
    let V = g.R.Rig.view in
    let e = c.in_ok-put.ensures in
    let f = c.in_ok-get.ensures in
    let u : Unit {0} = tt in
    speaks_other (0x7F ∷ []) [] 2 2 Quiet (V c.args.rig.now) (V c.get.new.self) (lit≤ tt) (λ same. cc)
    (went_both 0x7F u c.in_ok-get.field-0 (V c.args.rig.now) (V c.put.new.self) (V c.get.new.self) e.cause e.journal_count e.recorded f.cause f.journal_count f.recorded e.honest f.honest)

pub returns-in-Some-eq121-clause-answered : goal.returns-in-Some-eq121-clause-answered
returns-in-Some-eq121-clause-answered g c =
    let V = g.R.Rig.view in
    let u : Unit {0} = tt in
    adds_both 0x7F u c.in_ok-get.field-0 (Some ack) (V c.args.rig.now).calls (V c.put.new.self).calls (V c.get.new.self).calls (c.in-Some-eq121.is ∙ ap (λ n. Some n) c.in-Some-eq121.field-0-test) c.in_ok-put.ensures.recorded c.in_ok-get.ensures.recorded

pub returns-in-Some-clause-fails : goal.returns-in-Some-clause-fails
returns-in-Some-clause-fails g c =
    let V = g.R.Rig.view in
    let u : Unit {0} = tt in
    let a = (V c.args.rig.now).calls in
    let d = (V c.get.new.self).calls in
    let x = c.in-Some.field-0 in
    let both = adds_both 0x7F u c.in_ok-get.field-0 (Some x) a (V c.put.new.self).calls d c.in-Some.is c.in_ok-put.ensures.recorded c.in_ok-get.ensures.recorded in
    fails_garbled IsUnanswered IsNoAck a d (Adds-GoesOn IsNoAck (Put 0x7F ∷ Get (Some x) ∷ []) a d both (x, c.in-Some.field-0-test.1, refl))

pub returns-in-None-clause-fails : goal.returns-in-None-clause-fails
returns-in-None-clause-fails g c =
    let V = g.R.Rig.view in
    let u : Unit {0} = tt in
    let a = (V c.args.rig.now).calls in
    let d = (V c.get.new.self).calls in
    let both = adds_both 0x7F u c.in_ok-get.field-0 None a (V c.put.new.self).calls d c.in-None.is c.in_ok-put.ensures.recorded c.in_ok-get.ensures.recorded in
    fails_quiet IsUnanswered IsNoAck a d (Adds-GoesOn IsUnanswered (Put 0x7F ∷ Get None ∷ []) a d both refl)
