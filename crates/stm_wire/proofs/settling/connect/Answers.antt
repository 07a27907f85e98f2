use Rattle.std.proofs.Common.{rules, refl, ◌∙◌, ap, Bool, Result, Err, Some, [], ◌∷◌, lit≤, inl, inr}
use Rattle.stm_wire.proofs.Names.{ack, Floods, Get, IsConnected, IsDrained, IsNoAck, IsUnanswered, IsUnconnected, Never, Put, WireFault, with_nothing_owed}
use Rattle.stm_wire.proofs.Keeping.{keeps_then, here}
use Rattle.stm_wire.proofs.SettlingFaults.{adds_before, fails_on, floods_before}
use Rattle.stm_wire.proofs.Talking.{went_then, speaks_fault, speaks_ok, speaks_then, speaks_went}
use Rattle.stm_wire.proofs.Turns.{GoesOn-weaker}
use Rattle.stm_wire.proofs.settling.connect.Goals as goal

pub returns-in_err-send_connect-clause-honest : goal.returns-in_err-send_connect-clause-honest
returns-in_err-send_connect-clause-honest g c h byte pages start s at quiet =
    let l = c.in_err-send_connect.ensures.honest h byte pages start s at quiet in
    let line = l.fails in
    record { keeps = l.keeps; ok = search rules; fails = search (rules, line) }

pub returns-in_err-drain-clause-honest : goal.returns-in_err-drain-clause-honest
returns-in_err-drain-clause-honest g c h byte pages start s at quiet =
    let V = g.R.Rig.view in
    let a = V c.args.rig.now in
    let b = V c.send_connect.new.rig in
    let d = V c.drain.new.rig in
    let k = c.in_ok-send_connect.ensures.honest h byte pages start s at quiet in
    let mb = g.met.R.Rig.model c.send_connect.new.rig k.keeps.honest in
    let sb = (here byte pages start a b mb k.keeps).1 in
    let line = c.in_err-drain.ensures.line k.keeps.honest sb.owed in
    record { keeps = keeps_then byte pages start a b d mb k.keeps (c.drain.ensures.keeps k.keeps.honest byte pages start sb); ok = search rules; fails = search (rules, line) }

pub returns-clause-honest : goal.returns-clause-honest
returns-clause-honest g c h byte pages start s at quiet =
    let V = g.R.Rig.view in
    let a = V c.args.rig.now in
    let b = V c.send_connect.new.rig in
    let d = V c.drain.new.rig in
    let k = c.in_ok-send_connect.ensures.honest h byte pages start s at quiet in
    let mb = g.met.R.Rig.model c.send_connect.new.rig k.keeps.honest in
    let sb = (here byte pages start a b mb k.keeps).1 in
    record {
      keeps = keeps_then byte pages start a b d mb k.keeps (c.drain.ensures.keeps k.keeps.honest byte pages start sb);
      ok = c.in_ok-drain.ensures.empty k.keeps.honest ∙ ap with_nothing_owed k.ok;
      fails = search rules;
    }

pub returns-in_err-send_connect-clause-speaks : goal.returns-in_err-send_connect-clause-speaks
returns-in_err-send_connect-clause-speaks g c =
    let V = g.R.Rig.view in
    speaks_fault (0x7F ∷ []) [] 2 4099 c.in_err-send_connect.field-0.0 c.from_residual.result (V c.args.rig.now) (V c.send_connect.new.rig) (lit≤ tt) c.from_residual.ensures.1 c.in_err-send_connect.ensures.speaks

pub returns-in_err-drain-clause-speaks : goal.returns-in_err-drain-clause-speaks
returns-in_err-drain-clause-speaks g c =
    let V = g.R.Rig.view in
    let u : Unit {0} = tt in
    let a = V c.args.rig.now in
    let b = V c.send_connect.new.rig in
    let d = V c.drain.new.rig in
    let fault = c.in_err-drain.field-0.0 in
    let failed : Result Bool WireFault = Err fault in
    speaks_fault (0x7F ∷ []) [] 4099 4099 fault c.from_residual-in_err-drain.result a d (lit≤ tt) c.from_residual-in_err-drain.ensures.1
    (speaks_then (0x7F ∷ []) [] 2 4097 failed a b d (speaks_went (0x7F ∷ []) 2 u a b c.in_ok-send_connect.ensures.speaks) c.in_err-drain.ensures.speaks)

pub returns-clause-speaks : goal.returns-clause-speaks
returns-clause-speaks g c =
    let V = g.R.Rig.view in
    let u : Unit {0} = tt in
    let a = V c.args.rig.now in
    let b = V c.send_connect.new.rig in
    let d = V c.drain.new.rig in
    speaks_ok (0x7F ∷ []) 4099 u a d
    (went_then (0x7F ∷ []) [] 2 4097 a b d (speaks_went (0x7F ∷ []) 2 u a b c.in_ok-send_connect.ensures.speaks) (speaks_went [] 4097 c.in_ok-drain.field-0 b d c.in_ok-drain.ensures.speaks))

pub returns-clause-answered : goal.returns-clause-answered
returns-clause-answered g c =
    let V = g.R.Rig.view in
    let seen = c.in_ok-drain.field-0 in
    adds_before (Put 0x7F ∷ Get (Some ack) ∷ []) (IsDrained seen) IsConnected (V c.args.rig.now).calls (V c.send_connect.new.rig).calls (V c.drain.new.rig).calls
    c.in_ok-send_connect.ensures.answered c.in_ok-drain.ensures.drained (λ vs v. record { seen = seen; drained = vs; is = refl; is_drained = v })

pub returns-in_err-send_connect-clause-fails : goal.returns-in_err-send_connect-clause-fails
returns-in_err-send_connect-clause-fails g c =
    let V = g.R.Rig.view in
    let a = (V c.args.rig.now).calls in
    let b = (V c.send_connect.new.rig).calls in
    fails_on IsUnanswered IsNoAck IsUnanswered IsUnconnected a b a b c.in_err-send_connect.field-0.0 c.from_residual.result
    (λ p. p) (λ p. GoesOn-weaker IsNoAck IsUnconnected a b p (λ us u. inr u))
    c.in_err-send_connect.ensures.fails c.from_residual.ensures.1

pub returns-in_err-drain-clause-fails : goal.returns-in_err-drain-clause-fails
returns-in_err-drain-clause-fails g c =
    let V = g.R.Rig.view in
    let a = (V c.args.rig.now).calls in
    let b = (V c.send_connect.new.rig).calls in
    let d = (V c.drain.new.rig).calls in
    let head = Put 0x7F ∷ Get (Some ack) ∷ [] in
    let answered = c.in_ok-send_connect.ensures.answered in
    fails_on Never Floods IsUnanswered IsUnconnected b d a d c.in_err-drain.field-0.0 c.from_residual-in_err-drain.result
    (λ p. adds_before head Never IsUnanswered a b d answered p (λ vs v. absurd v))
    (λ p. adds_before head Floods IsUnconnected a b d answered p (λ vs v. inl (floods_before head vs v)))
    c.in_err-drain.ensures.fails c.from_residual-in_err-drain.ensures.1
