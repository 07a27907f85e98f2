use Rattle.std.proofs.Common.{rules, None, [], ◌∷◌, ◌++◌, ◌∙◌, ap, lit≤}
use Rattle.std.proofs.lemmas.Result.{on_ok_weaker}
use Rattle.stm_wire.proofs.Names.{Device, Get, IsAnswer, IsAnswerTo, Never, Put, with_rest}
use Rattle.stm_wire.proofs.Keeping.{keeps_then, keeps_known, here, probed}
use Rattle.stm_wire.proofs.Talking.{went_put, failed_put, speaks_line, speaks_then}
use Rattle.stm_wire.proofs.SettlingCalls.{adds_one}
use Rattle.stm_wire.proofs.SettlingFaults.{fails_all_weaker, adds_before}
use Rattle.stm_wire.proofs.Turns.{Adds-append}
use Rattle.stm_wire.proofs.settling.probe.Goals as goal

pub returns-in_err-put-clause-honest : goal.returns-in_err-put-clause-honest
returns-in_err-put-clause-honest g c h pages start s at quiet =
    let V = g.R.Rig.view in
    let a = V c.args.rig.now in
    let b = V c.put.new.self in
    let target = with_rest (c.args.byte ∷ []) a.device in
    let one = keeps_known c.args.byte pages start c.put.result a b target (g.met.R.Rig.model c.args.rig.now h) s (λ d f. probed c.args.byte a.device d at quiet f) (lit≤ tt) (c.put.ensures.honest h) in
    record { keeps = one; ok = search rules; fails = search rules }

pub returns-clause-honest : goal.returns-clause-honest
returns-clause-honest g c h pages start s at quiet =
    let V = g.R.Rig.view in
    let a = V c.args.rig.now in
    let b = V c.put.new.self in
    let target = with_rest (c.args.byte ∷ []) a.device in
    let one = keeps_known c.args.byte pages start c.put.result a b target (g.met.R.Rig.model c.args.rig.now h) s (λ d f. probed c.args.byte a.device d at quiet f) (lit≤ tt) (c.put.ensures.honest h) in
    let p = (c.in_ok-put.ensures.honest h).ok.0 in
    let is = probed c.args.byte a.device b.device at quiet p in
    let mb = g.met.R.Rig.model c.put.new.self one.honest in
    let sb = (here c.args.byte pages start a b mb one).1 in
    let l = c.expect_quiet.ensures.honest one.honest c.args.byte pages start sb (ap (λ (x : Device). x.owed) is) in
    record { keeps = keeps_then c.args.byte pages start a b (V c.expect_quiet.new.rig) mb one l.keeps; ok = on_ok_weaker c.expect_quiet.result (λ e. e ∙ is) l.ok; fails = l.fails }

pub returns-in_err-put-clause-speaks : goal.returns-in_err-put-clause-speaks
returns-in_err-put-clause-speaks g c =
    let V = g.R.Rig.view in
    let e = c.in_err-put.ensures in
    let byte = c.args.byte in
    speaks_line (byte ∷ []) [] 1 2 c.from_residual.result (V c.args.rig.now) (V c.put.new.self) (lit≤ tt) (failed_put (Unit {0}) byte c.in_err-put.field-0.0 (V c.args.rig.now) (V c.put.new.self) e.cause e.journal_count e.recorded e.honest) c.from_residual.ensures.1

pub returns-clause-speaks : goal.returns-clause-speaks
returns-clause-speaks g c =
    let V = g.R.Rig.view in
    let e = c.in_ok-put.ensures in
    let byte = c.args.byte in
    let u : Unit {0} = tt in
    speaks_then (byte ∷ []) [] 1 1 c.expect_quiet.result (V c.args.rig.now) (V c.put.new.self) (V c.expect_quiet.new.rig) (went_put byte u (V c.args.rig.now) (V c.put.new.self) e.cause e.journal_count e.recorded e.honest) c.expect_quiet.ensures.speaks

pub returns-clause-quiet : goal.returns-clause-quiet
returns-clause-quiet g c =
    let V = g.R.Rig.view in
    let u : Unit {0} = tt in
    let byte = c.args.byte in
    let a = (V c.args.rig.now).calls in
    let b = (V c.put.new.self).calls in
    let d = (V c.expect_quiet.new.rig).calls in
    on_ok_weaker c.expect_quiet.result (λ quiet. Adds-append (Put byte ∷ []) (Get None ∷ []) a b d (adds_one (Put byte) u a b c.in_ok-put.ensures.recorded) quiet) c.expect_quiet.ensures.quiet

pub returns-clause-fails : goal.returns-clause-fails
returns-clause-fails g c =
    let V = g.R.Rig.view in
    let u : Unit {0} = tt in
    let byte = c.args.byte in
    let a = (V c.args.rig.now).calls in
    let b = (V c.put.new.self).calls in
    let d = (V c.expect_quiet.new.rig).calls in
    let one = Put byte ∷ [] in
    let put = adds_one (Put byte) u a b c.in_ok-put.ensures.recorded in
    fails_all_weaker Never IsAnswer Never (IsAnswerTo byte) b d a d c.expect_quiet.result
    (λ p. adds_before one Never Never a b d put p (λ vs v. v))
    (λ p. adds_before one IsAnswer (IsAnswerTo byte) a b d put p (λ vs v. (v.0, ap (λ z. one ++ z) v.1)))
    c.expect_quiet.ensures.fails
