use Rattle.std.proofs.Common.{◌≡◌, ◌+◌, ◌≤◌, length, arith}
use Rattle.stm_files.proofs.Checks.{counted-all, counted-more}
use Rattle.stm_files.proofs.checking.count_by.Goals as goal

pub loop-n-preserved : goal.loop-n-preserved
loop-n-preserved g c =
    let V = g.L.Rig.view in
    let n = c.in_ok-n.n in
    let before = c.loop-n.buf in
    let after = c.fetch.new.buf in
    let a = V c.args.rig.now in
    let b = V c.loop-n.rig in
    let d = V c.fetch.new.rig in
    record {
      some = omega (arith, c.loop-n.invariant.some, c.fetch.auto.buf);
      read = λ honest.
          let model = g.met.L.Rig.model c.args.rig.now honest in
          let has = c.loop-n.invariant.read honest in
          let got = c.in_ok-n.ensures.honest has.stays.honest in
          let within : n ≤ length after = omega (arith, c.in_ok-n.ensures.within, c.fetch.auto.buf) in
          let more = counted-more c.loop-n.at n before after c.loop-n.tally c.with-tally.result a b d model has got within c.with-tally.ensures in
          let exact : c.saturating_add-at.result ≡ c.loop-n.at + n = omega (arith, c.saturating_add-at.ensures, more.within, model.journal) in
          rw exact more;
    }

pub returns-then-n-eq0-clause-honest : goal.returns-then-n-eq0-clause-honest
returns-then-n-eq0-clause-honest g c = λ honest.
    let V = g.L.Rig.view in
    let a = V c.args.rig.now in
    let b = V c.loop-n.rig in
    let d = V c.fetch.new.rig in
    let has = c.loop-n.invariant.read honest in
    let none : c.in_ok-n.n ≡ 0 = omega (arith, c.if-n-eq0.true) in
    counted-all c.loop-n.at c.loop-n.buf c.fetch.new.buf c.loop-n.tally a b d has (rw none at (c.in_ok-n.ensures.honest has.stays.honest)) c.loop-n.invariant.some
