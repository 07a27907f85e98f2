use Rattle.std.proofs.Common.{rules, ◌≢◌, refl, ℕ, Some, None, [], ◌∷◌, ◌++◌, ◌∙◌, ap, lit≤, subst, Option}
use Rattle.std.proofs.lemmas.Result.{on_ok_weaker}
use Rattle.stm_wire.proofs.Names.{answered_on, Connected, Device, Get, GetsFirst, IsAnswer, IsUnconfirmed, nack, Never, Put, unrefused, with_nothing_owed}
use Rattle.stm_wire.proofs.Keeping.{keeps_get, keeps_then, keeps_known, here, taken_one, confirmed}
use Rattle.stm_wire.proofs.Talking.{failed_put, speaks_line, speaks_then, went_both}
use Rattle.stm_wire.proofs.SettlingCalls.{adds_both}
use Rattle.stm_wire.proofs.SettlingFaults.{fails_garbled, fails_all_weaker, adds_before}
use Rattle.stm_wire.proofs.Turns.{Adds-append, Adds-GoesOn}
use Rattle.stm_wire.proofs.settling.confirm.Goals as goal

pub returns-in_err-put-clause-honest : goal.returns-in_err-put-clause-honest
returns-in_err-put-clause-honest g c h pages start s at quiet =
    let V = g.R.Rig.view in
    let a = V c.args.rig.now in
    let b = V c.put.new.self in
    let target = let r : Device = record a.device { owed = nack ∷ []; phase = Connected [] } in r in
    let one = keeps_known c.args.byte pages start c.put.result a b target (g.met.R.Rig.model c.args.rig.now h) s (λ d f. confirmed c.args.byte a.device d at quiet f) (lit≤ tt) (c.put.ensures.honest h) in
    record { keeps = one; ok = search rules; fails = search rules }

pub returns-in_err-get-clause-honest : goal.returns-in_err-get-clause-honest
returns-in_err-get-clause-honest g c h pages start s at quiet =
    let V = g.R.Rig.view in
    let a = V c.args.rig.now in
    let b = V c.put.new.self in
    let target = let r : Device = record a.device { owed = nack ∷ []; phase = Connected [] } in r in
    let one = keeps_known c.args.byte pages start c.put.result a b target (g.met.R.Rig.model c.args.rig.now h) s (λ d f. confirmed c.args.byte a.device d at quiet f) (lit≤ tt) (c.put.ensures.honest h) in
    let p = (c.in_ok-put.ensures.honest h).ok.0 in
    let is = confirmed c.args.byte a.device b.device at quiet p in
    let mb = g.met.R.Rig.model c.put.new.self one.honest in
    let sb = (here c.args.byte pages start a b mb one).1 in
    record {
      keeps = keeps_then c.args.byte pages start a b (V c.get.new.self) mb one (keeps_get c.args.byte pages start c.get.result b (V c.get.new.self) mb sb (c.get.ensures.honest one.honest));
      ok = search rules;
      fails = search rules;
    }

pub returns-in-Some-eq31-clause-honest : goal.returns-in-Some-eq31-clause-honest
returns-in-Some-eq31-clause-honest g c h pages start s at quiet =
    let V = g.R.Rig.view in
    let a = V c.args.rig.now in
    let b = V c.put.new.self in
    let target = let r : Device = record a.device { owed = nack ∷ []; phase = Connected [] } in r in
    let one = keeps_known c.args.byte pages start c.put.result a b target (g.met.R.Rig.model c.args.rig.now h) s (λ d f. confirmed c.args.byte a.device d at quiet f) (lit≤ tt) (c.put.ensures.honest h) in
    let p = (c.in_ok-put.ensures.honest h).ok.0 in
    let is = confirmed c.args.byte a.device b.device at quiet p in
    let mb = g.met.R.Rig.model c.put.new.self one.honest in
    let sb = (here c.args.byte pages start a b mb one).1 in
    let d = V c.get.new.self in
    let two = keeps_then c.args.byte pages start a b d mb one (keeps_get c.args.byte pages start c.get.result b d mb sb (c.get.ensures.honest one.honest)) in
    let md = g.met.R.Rig.model c.get.new.self two.honest in
    let got = taken_one nack b.device d.device (ap (λ (x : Device). x.owed) is) c.in-Some-eq31.field-0 (subst (λ (o : Option ℕ). GetsFirst o b.device d.device) c.in-Some-eq31.is (c.in_ok-get.ensures.honest one.honest).ok) in
    let e = got.1 ∙ ap with_nothing_owed is in
    let l = c.expect_quiet.ensures.honest two.honest c.args.byte pages start (here c.args.byte pages start a d md two).1 (ap (λ (x : Device). x.owed) e) in
    record {
      keeps = keeps_then c.args.byte pages start a d (V c.expect_quiet.new.rig) md two l.keeps;
      ok = on_ok_weaker c.expect_quiet.result (λ f. f ∙ e) l.ok;
      fails = l.fails;
    }

pub returns-in_err-put-clause-speaks : goal.returns-in_err-put-clause-speaks
returns-in_err-put-clause-speaks g c =
    let V = g.R.Rig.view in
    let e = c.in_err-put.ensures in
    let byte = c.args.byte in
    speaks_line (byte ∷ []) [] 1 3 c.from_residual.result (V c.args.rig.now) (V c.put.new.self) (lit≤ tt) (failed_put (Unit {0}) byte c.in_err-put.field-0.0 (V c.args.rig.now) (V c.put.new.self) e.cause e.journal_count e.recorded e.honest) c.from_residual.ensures.1

pub returns-in-Some-eq31-clause-speaks : goal.returns-in-Some-eq31-clause-speaks
returns-in-Some-eq31-clause-speaks g c =
    let V = g.R.Rig.view in
    let e = c.in_ok-put.ensures in
    let f = c.in_ok-get.ensures in
    let byte = c.args.byte in
    let u : Unit {0} = tt in
    speaks_then (byte ∷ []) [] 2 1 c.expect_quiet.result (V c.args.rig.now) (V c.get.new.self) (V c.expect_quiet.new.rig)
    (went_both byte u c.in_ok-get.field-0 (V c.args.rig.now) (V c.put.new.self) (V c.get.new.self) e.cause e.journal_count e.recorded f.cause f.journal_count f.recorded e.honest f.honest) c.expect_quiet.ensures.speaks

pub returns-in-Some-eq31-clause-refused : goal.returns-in-Some-eq31-clause-refused
returns-in-Some-eq31-clause-refused g c =
    let V = g.R.Rig.view in
    let u : Unit {0} = tt in
    let byte = c.args.byte in
    let a = (V c.args.rig.now).calls in
    let b = (V c.get.new.self).calls in
    let d = (V c.expect_quiet.new.rig).calls in
    let both = adds_both byte u c.in_ok-get.field-0 (Some nack) a (V c.put.new.self).calls b (c.in-Some-eq31.is ∙ ap (λ n. Some n) c.in-Some-eq31.field-0-test) c.in_ok-put.ensures.recorded c.in_ok-get.ensures.recorded in
    on_ok_weaker c.expect_quiet.result (λ quiet. Adds-append (Put byte ∷ Get (Some nack) ∷ []) (Get None ∷ []) a b d both quiet) c.expect_quiet.ensures.quiet

pub returns-in-Some-eq31-clause-fails : goal.returns-in-Some-eq31-clause-fails
returns-in-Some-eq31-clause-fails g c =
    let V = g.R.Rig.view in
    let u : Unit {0} = tt in
    let byte = c.args.byte in
    let a = (V c.args.rig.now).calls in
    let b = (V c.get.new.self).calls in
    let d = (V c.expect_quiet.new.rig).calls in
    let head = Put byte ∷ Get (Some nack) ∷ [] in
    let both = adds_both byte u c.in_ok-get.field-0 (Some nack) a (V c.put.new.self).calls b (c.in-Some-eq31.is ∙ ap (λ n. Some n) c.in-Some-eq31.field-0-test) c.in_ok-put.ensures.recorded c.in_ok-get.ensures.recorded in
    fails_all_weaker Never IsAnswer Never (IsUnconfirmed byte) b d a d c.expect_quiet.result
    (λ p. adds_before head Never Never a b d both p (λ vs v. v))
    (λ p. adds_before head IsAnswer (IsUnconfirmed byte) a b d both p (λ vs v. answered_on v.0 (ap (λ z. head ++ z) v.1)))
    c.expect_quiet.ensures.fails

pub returns-in_default-clause-fails : goal.returns-in_default-clause-fails
returns-in_default-clause-fails g c =
    let V = g.R.Rig.view in
    let u : Unit {0} = tt in
    let byte = c.args.byte in
    let a = (V c.args.rig.now).calls in
    let d = (V c.get.new.self).calls in
    let x = c.in_default.field-0 in
    let both = adds_both byte u c.in_ok-get.field-0 (Some x) a (V c.put.new.self).calls d c.in_default.is c.in_ok-put.ensures.recorded c.in_ok-get.ensures.recorded in
    let other : Some x ≢ Some nack = (λ e. c.in_default.field-0-test.1 (let h = e in cc)) in
    fails_garbled Never (IsUnconfirmed byte) a d (Adds-GoesOn (IsUnconfirmed byte) (Put byte ∷ Get (Some x) ∷ []) a d both (unrefused (Some x) other refl))

pub returns-in_default-2-clause-fails : goal.returns-in_default-2-clause-fails
returns-in_default-2-clause-fails g c =
    let V = g.R.Rig.view in
    let u : Unit {0} = tt in
    let byte = c.args.byte in
    let a = (V c.args.rig.now).calls in
    let d = (V c.get.new.self).calls in
    let both = adds_both byte u c.in_ok-get.field-0 None a (V c.put.new.self).calls d c.in_default.is c.in_ok-put.ensures.recorded c.in_ok-get.ensures.recorded in
    fails_garbled Never (IsUnconfirmed byte) a d (Adds-GoesOn (IsUnconfirmed byte) (Put byte ∷ Get None ∷ []) a d both (unrefused None (λ e. cc) refl))
