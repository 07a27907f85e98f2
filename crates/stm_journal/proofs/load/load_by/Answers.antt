use Rattle.std.proofs.Common.{◌≡◌, ◌<◌, ◌≤◌, ℕ, ◌∙◌, subst, arith, length, take, Ok, refl}
use Rattle.std.proofs.lemmas.Result.{err_from_is_err_and}
use Rattle.stm_journal.proofs.Names.{Fetches}
use Rattle.stm_journal.proofs.Fetching.{GoesOn-fetches, HasRead-more, Loads-done, Loads-stopped, short-read}
use Rattle.stm_journal.proofs.load.load_by.Goals as goal

pub returns-in_err-n-clause-calls : goal.returns-in_err-n-clause-calls
returns-in_err-n-clause-calls g c =
    let V = g.R.Rig.view in
    GoesOn-fetches (V c.args.rig.now).calls (V c.loop-loader.rig).calls (V c.fetch.new.rig).calls c.loop-loader.invariant.calls c.in_err-n.ensures.calls

pub returns-then-n-eq0-clause-calls : goal.returns-then-n-eq0-clause-calls
returns-then-n-eq0-clause-calls g c =
    let V = g.R.Rig.view in
    GoesOn-fetches (V c.args.rig.now).calls (V c.loop-loader.rig).calls (V c.fetch.new.rig).calls c.loop-loader.invariant.calls c.in_ok-n.ensures.calls

pub returns-in_err-take-clause-calls : goal.returns-in_err-take-clause-calls
returns-in_err-take-clause-calls g c =
    let V = g.R.Rig.view in
    GoesOn-fetches (V c.args.rig.now).calls (V c.loop-loader.rig).calls (V c.fetch.new.rig).calls c.loop-loader.invariant.calls c.in_ok-n.ensures.calls

pub returns-in_err-take-clause-honest : goal.returns-in_err-take-clause-honest
returns-in_err-take-clause-honest g c = λ honest.
    let V = g.R.Rig.view in
    let l = c.loop-loader.loader.journal in
    let tail = c.loop-loader.loader.tail in
    let n = c.in_ok-n.n in
    let before = c.loop-loader.buf in
    let after = c.fetch.new.buf in
    let a = V c.args.rig.now in
    let b = V c.loop-loader.rig in
    let d = V c.fetch.new.rig in
    let has = c.loop-loader.invariant.read honest in
    let F : ℕ → Type 0 = λ at. Fetches at before after b d (Ok n) in
    let got = subst F c.size.ensures (c.in_ok-n.ensures.honest has.honest) in
    let within : n ≤ length after = omega (arith, c.in_ok-n.ensures.within, c.fetch.auto.buf) in
    let some : 0 < n = omega (arith, c.if-n-eq0.false) in
    let stops = c.in_err-take.ensures.takes (take l.size a.journal) has.read (short-read l tail n before after a b d (g.met.R.Rig.model c.args.rig.now honest) has got within) in
    let p = err_from_is_err_and c.from_residual-in_err-take.result c.from_residual-in_err-take.ensures.1 in
    rw (p.1, p.2) (Loads-stopped l tail n before after (take n after) c.in_err-take.field-0.0 a b d has got within some refl c.in_err-take.ensures.answers stops)

pub loop-loader-preserved : goal.loop-loader-preserved
loop-loader-preserved g c =
    let V = g.R.Rig.view in
    let l = c.loop-loader.loader.journal in
    let tail = c.loop-loader.loader.tail in
    let n = c.in_ok-n.n in
    let before = c.loop-loader.buf in
    let after = c.fetch.new.buf in
    let a = V c.args.rig.now in
    let b = V c.loop-loader.rig in
    let d = V c.fetch.new.rig in
    record {
      cause = record {
        later = omega (arith, c.loop-loader.invariant.cause.later, c.in_ok-n.ensures.cause.later);
        done = c.in_ok-n.ensures.cause.done ∙ c.loop-loader.invariant.cause.done;
        failed = tt;
        line_count = c.in_ok-n.ensures.cause.line_count ∙ c.loop-loader.invariant.cause.line_count;
        honest = λ h. c.in_ok-n.ensures.cause.honest (c.loop-loader.invariant.cause.honest h);
      };
      calls = GoesOn-fetches a.calls b.calls d.calls c.loop-loader.invariant.calls c.in_ok-n.ensures.calls;
      read = λ honest.
          let has = c.loop-loader.invariant.read honest in
          let F : ℕ → Type 0 = λ at. Fetches at before after b d (Ok n) in
          let got = subst F c.size.ensures (c.in_ok-n.ensures.honest has.honest) in
          let within : n ≤ length after = omega (arith, c.in_ok-n.ensures.within, c.fetch.auto.buf) in
          let read = c.in_ok-take.ensures.takes (take l.size a.journal) has.read (short-read l tail n before after a b d (g.met.R.Rig.model c.args.rig.now honest) has got within) in
          HasRead-more l c.take.new.self.journal tail c.take.new.self.tail n before after (take n after) a b d has got within refl read;
      some = omega (arith, c.loop-loader.invariant.some, c.fetch.auto.buf);
      few = omega (arith, c.loop-loader.invariant.few, c.fetch.auto.buf);
    }

pub returns-then-n-eq0-clause-honest : goal.returns-then-n-eq0-clause-honest
returns-then-n-eq0-clause-honest g c = λ honest.
    let V = g.R.Rig.view in
    let l = c.loop-loader.loader.journal in
    let tail = c.loop-loader.loader.tail in
    let n = c.in_ok-n.n in
    let before = c.loop-loader.buf in
    let after = c.fetch.new.buf in
    let a = V c.args.rig.now in
    let b = V c.loop-loader.rig in
    let d = V c.fetch.new.rig in
    let has = c.loop-loader.invariant.read honest in
    let F : ℕ → Type 0 = λ at. Fetches at before after b d (Ok n) in
    let got = subst F c.size.ensures (c.in_ok-n.ensures.honest has.honest) in
    let none : n ≡ 0 = omega (arith, c.if-n-eq0.true) in
    Loads-done l c.finish.result tail n before after a b d has got c.loop-loader.invariant.some none (c.finish.ensures (take l.size a.journal) has.read)
