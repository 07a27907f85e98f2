use Rattle.std.proofs.Common.{rules, [], ◌≡◌, ◌∙◌, ◌+◌, ◌-◌, arith, refl, replicate}
use Rattle.std.proofs.lemmas.Result.{on_ok_weaker, IfOk-weaker}
use Rattle.stm_wire.proofs.Names.{Floods, GoesOn, IsBatch, IsDrained, Never, Put, PutsAll}
use Rattle.stm_wire.proofs.Going.{batch_step}
use Rattle.stm_wire.proofs.Keeping.{keeps_start, keeps_then, batch_put, batch_next, batch_count, batch_first, batch_last}
use Rattle.stm_wire.proofs.SettlingCalls.{adds_one, copies_more, batch_calls}
use Rattle.stm_wire.proofs.SettlingFaults.{fails_all_weaker, never_after, floods_after}
use Rattle.stm_wire.proofs.Talking.{went_nowhere, went_put, went_copy, failed_put, batch_line, batch_drained, goes_nowhere}
use Rattle.stm_wire.proofs.batch.send_batch.Goals as goal

pub loop-sent-init : goal.loop-sent-init
loop-sent-init g c =
    let V = g.R.Rig.view in
    record {
      went = went_nowhere (V c.args.rig.now);
      brief = refl;
      copies = goes_nowhere (λ zs. zs ≡ []) (V c.args.rig.now).calls refl;
      honest = λ h pages start left two going.
          (keeps_start c.args.byte pages start (V c.args.rig.now) (g.met.R.Rig.model c.args.rig.now h) h going.settling, batch_first c.args.byte pages start left c.args.count (V c.args.rig.now).device going);
    }

pub loop-sent-preserved : goal.loop-sent-preserved
loop-sent-preserved g c =
    record {
      brief = c.in_ok-put.ensures.aside.long_gets ∙ c.loop-sent.invariant.brief;
      went = (let V = g.R.Rig.view in
          let e = c.in_ok-put.ensures in
          let u : Unit {0} = tt in
          went_copy c.args.byte c.loop-sent._sent c.loop-sent._sent 1 (V c.args.rig.now) (V c.loop-sent.rig) (V c.put.new.self) c.loop-sent.invariant.went
          (went_put c.args.byte u (V c.loop-sent.rig) (V c.put.new.self) e.cause e.journal_count e.recorded e.honest));
      copies = (let V = g.R.Rig.view in
          let u : Unit {0} = tt in
          let b = (V c.loop-sent.rig).calls in
          let d = (V c.put.new.self).calls in
          copies_more c.args.byte c.loop-sent._sent (V c.args.rig.now).calls b d c.loop-sent.invariant.copies (adds_one (Put c.args.byte) u b d c.in_ok-put.ensures.recorded));
      honest = λ h pages start left two going.
          let V = g.R.Rig.view in
          let a = V c.args.rig.now in
          let b = V c.loop-sent.rig in
          let i = c.loop-sent.invariant.honest h pages start left two going in
          let mb = g.met.R.Rig.model c.loop-sent.rig i.0.honest in
          let small = c.ranges.byte.fits in
          let room = c.requires in
          let rest = left + (c.args.count - (c.loop-sent._sent + 1)) in
          let next = batch_next c.args.byte pages start left c.args.count c.loop-sent._sent b.device c.loop-sent-test.true i.1 in
          let d = V c.put.new.self in
          let one = batch_put c.args.byte pages start rest (521 + c.loop-sent._sent) c.put.result b d mb small (omega arith) (omega (arith, c.loop-sent-test.true)) next (c.put.ensures.honest i.0.honest) in (
            keeps_then c.args.byte pages start a b d mb i.0 one,
            batch_count c.args.byte pages start rest c.loop-sent._sent d.device
                (batch_step c.args.byte pages start rest (521 + c.loop-sent._sent) b.device d.device mb.device small (omega arith) (omega (arith, c.loop-sent-test.true)) next ((c.in_ok-put.ensures.honest i.0.honest).ok.0)),
          );
    }

pub returns-in_err-put-clause-honest : goal.returns-in_err-put-clause-honest
returns-in_err-put-clause-honest g c h pages start left two going =
    let V = g.R.Rig.view in
    let a = V c.args.rig.now in
    let b = V c.loop-sent.rig in
    let i = c.loop-sent.invariant.honest h pages start left two going in
    let mb = g.met.R.Rig.model c.loop-sent.rig i.0.honest in
    let small = c.ranges.byte.fits in
    let room = c.requires in
    let rest = left + (c.args.count - (c.loop-sent._sent + 1)) in
    let next = batch_next c.args.byte pages start left c.args.count c.loop-sent._sent b.device c.loop-sent-test.true i.1 in
    let d = V c.put.new.self in
    let one = batch_put c.args.byte pages start rest (521 + c.loop-sent._sent) c.put.result b d mb small (omega arith) (omega (arith, c.loop-sent-test.true)) next (c.put.ensures.honest i.0.honest) in
    let both = keeps_then c.args.byte pages start a b d mb i.0 one in
    record { keeps = both; ok = search rules; fails = search rules }

pub returns-in_err-put-clause-speaks : goal.returns-in_err-put-clause-speaks
returns-in_err-put-clause-speaks g c =
    let V = g.R.Rig.view in
    let e = c.in_err-put.ensures in
    let b = V c.loop-sent.rig in
    let d = V c.put.new.self in
    batch_line c.args.byte c.loop-sent._sent c.args.count (c.args.count + 4097) c.from_residual.result (V c.args.rig.now) b d c.loop-sent-test.true (omega (arith, c.loop-sent-test.true)) c.loop-sent.invariant.went
    (failed_put (Unit {0}) c.args.byte c.in_err-put.field-0.0 b d e.cause e.journal_count e.recorded e.honest) c.from_residual.ensures.1

pub returns-clause-speaks : goal.returns-clause-speaks
returns-clause-speaks g c =
    let V = g.R.Rig.view in
    let all : c.loop-sent._sent ≡ c.args.count = omega (arith, c.loop-sent-test.false, c.loop-sent.auto) in
    batch_drained c.args.byte c.loop-sent._sent c.args.count c.drain.result (V c.args.rig.now) (V c.loop-sent.rig) (V c.drain.new.rig) all c.loop-sent.invariant.went c.drain.ensures.speaks

pub returns-clause-batch : goal.returns-clause-batch
returns-clause-batch g c =
    let V = g.R.Rig.view in
    let all : c.loop-sent._sent ≡ c.args.count = omega (arith, c.loop-sent-test.false, c.loop-sent.auto) in
    let a = (V c.args.rig.now).calls in
    let b = (V c.loop-sent.rig).calls in
    let d = (V c.drain.new.rig).calls in
    IfOk-weaker c.drain.result (λ seen. GoesOn (IsDrained seen) b d) (λ seen. GoesOn (IsBatch c.args.byte c.args.count seen) a d) (λ seen drained. batch_calls c.args.byte c.args.count c.loop-sent._sent seen a b d all c.loop-sent.invariant.copies drained) c.drain.ensures.drained

pub returns-clause-fails : goal.returns-clause-fails
returns-clause-fails g c =
    let V = g.R.Rig.view in
    let a = (V c.args.rig.now).calls in
    let b = (V c.loop-sent.rig).calls in
    let d = (V c.drain.new.rig).calls in
    let before = PutsAll (replicate c.loop-sent._sent c.args.byte) c.loop-sent._sent in
    fails_all_weaker Never Floods Never Floods b d a d c.drain.result
    (λ p. never_after before Never a b d c.loop-sent.invariant.went.all p) (λ p. floods_after before a b d c.loop-sent.invariant.went.all p) c.drain.ensures.fails

pub returns-clause-honest : goal.returns-clause-honest
returns-clause-honest g c h pages start left two going =
    let V = g.R.Rig.view in
    let a = V c.args.rig.now in
    let b = V c.loop-sent.rig in
    let i = c.loop-sent.invariant.honest h pages start left two going in
    let mb = g.met.R.Rig.model c.loop-sent.rig i.0.honest in
    let e = V c.drain.new.rig in
    let s = i.1.settling in
    let few = s.owed in
    record {
      keeps = keeps_then c.args.byte pages start a b e mb i.0 (c.drain.ensures.keeps i.0.honest c.args.byte pages start s);
      ok = on_ok_weaker c.drain.result (λ f. batch_last c.args.byte pages start left c.args.count c.loop-sent._sent b.device e.device c.loop-sent-test.false i.1 f) (c.drain.ensures.empty i.0.honest);
      fails = c.drain.ensures.line i.0.honest few;
    }
