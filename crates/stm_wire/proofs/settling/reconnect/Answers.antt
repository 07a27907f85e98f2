use Rattle.std.proofs.Common.{rules, Result, Err, [], ◌∷◌, ◌∙◌, ap, lit≤}
use Rattle.stm_wire.proofs.Names.{Device, IsAnswerTo, IsConnected, IsUnanswered, IsUnconfirmed, IsUnconnected, IsUnended, Never, WireFault, with_rest}
use Rattle.stm_wire.proofs.SettlingCalls.{IsProbed, probed, reconnects}
use Rattle.stm_wire.proofs.SettlingFaults.{fails_on, fails_all_weaker, never_after, garbled_first, garbled_second, garbled_third}
use Rattle.std.proofs.lemmas.Result.{on_ok_weaker}
use Rattle.stm_wire.proofs.Keeping.{keeps_then, here}
use Rattle.stm_wire.proofs.Talking.{went_then, speaks_then, speaks_fault, speaks_went}
use Rattle.stm_wire.proofs.settling.reconnect.Goals as goal

pub returns-in_err-connect-clause-honest : goal.returns-in_err-connect-clause-honest
returns-in_err-connect-clause-honest g c h pages start s at quiet =
    let l = c.in_err-connect.ensures.honest h c.args.byte pages start s at quiet in
    let line = l.fails in
    record { keeps = l.keeps; ok = search rules; fails = search (rules, line) }

pub returns-in_err-probe-clause-honest : goal.returns-in_err-probe-clause-honest
returns-in_err-probe-clause-honest g c h pages start s at quiet =
    let V = g.R.Rig.view in
    let a = V c.args.rig.now in
    let b = V c.connect.new.rig in
    let k = c.in_ok-connect.ensures.honest h c.args.byte pages start s at quiet in
    let mb = g.met.R.Rig.model c.connect.new.rig k.keeps.honest in
    let sb = (here c.args.byte pages start a b mb k.keeps).1 in
    let bat = ap (λ (x : Device). x.phase) k.ok in
    let bquiet = ap (λ (x : Device). x.owed) k.ok in
    let d = V c.probe.new.rig in
    let l = c.in_err-probe.ensures.honest k.keeps.honest pages start sb bat bquiet in
    let line = l.fails in
    record { keeps = keeps_then c.args.byte pages start a b d mb k.keeps l.keeps; ok = search rules; fails = search (rules, line) }

pub returns-clause-honest : goal.returns-clause-honest
returns-clause-honest g c h pages start s at quiet =
    let V = g.R.Rig.view in
    let a = V c.args.rig.now in
    let b = V c.connect.new.rig in
    let k = c.in_ok-connect.ensures.honest h c.args.byte pages start s at quiet in
    let mb = g.met.R.Rig.model c.connect.new.rig k.keeps.honest in
    let sb = (here c.args.byte pages start a b mb k.keeps).1 in
    let bat = ap (λ (x : Device). x.phase) k.ok in
    let bquiet = ap (λ (x : Device). x.owed) k.ok in
    let d = V c.probe.new.rig in
    let l = c.in_ok-probe.ensures.honest k.keeps.honest pages start sb bat bquiet in
    let two = keeps_then c.args.byte pages start a b d mb k.keeps l.keeps in
    let md = g.met.R.Rig.model c.probe.new.rig two.honest in
    let sd = (here c.args.byte pages start a d md two).1 in
    let e = V c.confirm.new.rig in
    let m = c.confirm.ensures.honest two.honest pages start sd (ap (λ (x : Device). x.phase) l.ok) (ap (λ (x : Device). x.owed) l.ok) in
    record {
      keeps = keeps_then c.args.byte pages start a d e md two m.keeps;
      ok = on_ok_weaker c.confirm.result (λ f. f ∙ ap (with_rest []) l.ok ∙ ap (with_rest []) k.ok) m.ok;
      fails = m.fails;
    }

pub returns-in_err-connect-clause-speaks : goal.returns-in_err-connect-clause-speaks
returns-in_err-connect-clause-speaks g c =
    let V = g.R.Rig.view in
    let byte = c.args.byte in
    speaks_fault (0x7F ∷ []) (byte ∷ byte ∷ []) 4099 4104 c.in_err-connect.field-0.0 c.from_residual.result (V c.args.rig.now) (V c.connect.new.rig) (lit≤ tt) c.from_residual.ensures.1 c.in_err-connect.ensures.speaks

pub returns-in_err-probe-clause-speaks : goal.returns-in_err-probe-clause-speaks
returns-in_err-probe-clause-speaks g c =
    let V = g.R.Rig.view in
    let byte = c.args.byte in
    let u : Unit {0} = tt in
    let a = V c.args.rig.now in
    let b = V c.connect.new.rig in
    let d = V c.probe.new.rig in
    let fault = c.in_err-probe.field-0.0 in
    let failed : Result (Unit {0}) WireFault = Err fault in
    speaks_fault (0x7F ∷ byte ∷ []) (byte ∷ []) 4101 4104 fault c.from_residual-in_err-probe.result a d (lit≤ tt) c.from_residual-in_err-probe.ensures.1
    (speaks_then (0x7F ∷ []) (byte ∷ []) 4099 2 failed a b d (speaks_went (0x7F ∷ []) 4099 u a b c.in_ok-connect.ensures.speaks) c.in_err-probe.ensures.speaks)

pub returns-clause-speaks : goal.returns-clause-speaks
returns-clause-speaks g c =
    let V = g.R.Rig.view in
    let byte = c.args.byte in
    let u : Unit {0} = tt in
    let a = V c.args.rig.now in
    let b = V c.connect.new.rig in
    let d = V c.probe.new.rig in
    let two = went_then (0x7F ∷ []) (byte ∷ []) 4099 2 a b d (speaks_went (0x7F ∷ []) 4099 u a b c.in_ok-connect.ensures.speaks) (speaks_went (byte ∷ []) 2 u b d c.in_ok-probe.ensures.speaks) in
    speaks_then (0x7F ∷ byte ∷ []) (byte ∷ []) 4101 3 c.confirm.result a d (V c.confirm.new.rig) two c.confirm.ensures.speaks

pub returns-in_err-connect-clause-fails : goal.returns-in_err-connect-clause-fails
returns-in_err-connect-clause-fails g c =
    let V = g.R.Rig.view in
    let byte = c.args.byte in
    let a = (V c.args.rig.now).calls in
    let b = (V c.connect.new.rig).calls in
    fails_on IsUnanswered IsUnconnected IsUnanswered (IsUnended byte) a b a b c.in_err-connect.field-0.0 c.from_residual.result (λ p. p) (λ p. garbled_first byte a b p)
    c.in_err-connect.ensures.fails c.from_residual.ensures.1

pub returns-in_err-probe-clause-fails : goal.returns-in_err-probe-clause-fails
returns-in_err-probe-clause-fails g c =
    let V = g.R.Rig.view in
    let byte = c.args.byte in
    let a = (V c.args.rig.now).calls in
    let b = (V c.connect.new.rig).calls in
    let d = (V c.probe.new.rig).calls in
    fails_on Never (IsAnswerTo byte) IsUnanswered (IsUnended byte) b d a d c.in_err-probe.field-0.0 c.from_residual-in_err-probe.result
    (λ p. never_after IsConnected IsUnanswered a b d c.in_ok-connect.ensures.answered p)
    (λ p. garbled_second byte a b d c.in_ok-connect.ensures.answered p)
    c.in_err-probe.ensures.fails c.from_residual-in_err-probe.ensures.1

pub returns-clause-fails : goal.returns-clause-fails
returns-clause-fails g c =
    let V = g.R.Rig.view in
    let byte = c.args.byte in
    let a = (V c.args.rig.now).calls in
    let b = (V c.connect.new.rig).calls in
    let d = (V c.probe.new.rig).calls in
    let e = (V c.confirm.new.rig).calls in
    let two = probed byte a b d c.in_ok-connect.ensures.answered c.in_ok-probe.ensures.quiet in
    fails_all_weaker Never (IsUnconfirmed byte) IsUnanswered (IsUnended byte) d e a e c.confirm.result
    (λ p. never_after (IsProbed byte) IsUnanswered a d e two p)
    (λ p. garbled_third byte a d e two p)
    c.confirm.ensures.fails

pub returns-clause-settled : goal.returns-clause-settled
returns-clause-settled g c =
    let V = g.R.Rig.view in
    let byte = c.args.byte in
    let a = (V c.args.rig.now).calls in
    let b = (V c.connect.new.rig).calls in
    let d = (V c.probe.new.rig).calls in
    let e = (V c.confirm.new.rig).calls in
    let two = probed byte a b d c.in_ok-connect.ensures.answered c.in_ok-probe.ensures.quiet in
    on_ok_weaker c.confirm.result (λ w. reconnects byte a d e two w) c.confirm.ensures.refused
