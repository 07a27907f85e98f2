use Rattle.std.proofs.Common.{◌≡◌, ◌+◌, ◌-◌, ◌≤◌, ◌∙◌, ◌++◌, ℕ, List, length, take, drop, ap, subst, sym, arith, Ok, length-drop}
use borrow.Rule.Slice.PartMut.{post_of, same_len_mid}
use Rattle.std.proofs.lemmas.List.{drop-drop, length-take-le}
use Rattle.stm_journal.proofs.Names.{Fetches}
use Rattle.stm_journal.proofs.Fetching.{GoesOn-fetches}
use Rattle.stm_journal.proofs.PageReads.{looks-more, fetched-looks, filled-behind, filled-further}
use Rattle.stm_journal.proofs.Bringing.{brings-more}
use Rattle.stm_journal.proofs.fetch_page.fill.Goals as goal

pub returns-in_err-n-clause-calls : goal.returns-in_err-n-clause-calls
returns-in_err-n-clause-calls g c =
    let V = g.R.Rig.view in
    GoesOn-fetches (V c.args.rig.now).calls (V c.loop-done.rig).calls (V c.fetch.new.rig).calls c.loop-done.invariant.calls c.in_err-n.ensures.calls

pub returns-then-n-eq0-clause-calls : goal.returns-then-n-eq0-clause-calls
returns-then-n-eq0-clause-calls g c =
    let V = g.R.Rig.view in
    GoesOn-fetches (V c.args.rig.now).calls (V c.loop-done.rig).calls (V c.fetch.new.rig).calls c.loop-done.invariant.calls c.in_ok-n.ensures.calls

pub loop-done-preserved : goal.loop-done-preserved
loop-done-preserved g c =
    let V = g.R.Rig.view in
    let n = c.in_ok-n.n in
    let done = c.loop-done.done in
    let buf = c.loop-done.buf in
    let part = c.fetch.new.buf in
    let a = V c.args.rig.now in
    let b = V c.loop-done.rig in
    let d = V c.fetch.new.rig in
    let k : ℕ = length buf - done in
    let before : List ℕ = take k (drop done buf) in
    let size : length before ≡ k = length-take-le k (drop done buf) (omega (arith, length-drop done buf)) in
    let same = same_len_mid done k buf part c.fetch.auto.buf in
    let fits : n ≤ length part = omega (arith, c.in_ok-n.ensures.within, c.fetch.auto.buf) in
    record {
      within = omega (arith, c.in_ok-n.ensures.within, size, same, c.loop-done.invariant.within);
      size = same ∙ c.loop-done.invariant.size;
      cause = record {
        later = omega (arith, c.loop-done.invariant.cause.later, c.in_ok-n.ensures.cause.later);
        done = c.in_ok-n.ensures.cause.done ∙ c.loop-done.invariant.cause.done;
        failed = tt;
        line_count = c.in_ok-n.ensures.cause.line_count ∙ c.loop-done.invariant.cause.line_count;
        honest = λ h. c.in_ok-n.ensures.cause.honest (c.loop-done.invariant.cause.honest h);
      };
      calls = GoesOn-fetches a.calls b.calls d.calls c.loop-done.invariant.calls c.in_ok-n.ensures.calls;
      told =
          brings-more (take done buf) (take n part) (take (done + n) (take done buf ++ (part ++ post_of done k buf))) a.told b.told d.told
          (filled-behind done n buf part (post_of done k buf) c.loop-done.invariant.within fits) c.loop-done.invariant.told c.in_ok-n.ensures.told;
      read = λ honest room.
          let has = c.loop-done.invariant.read honest room in
          let model = g.met.R.Rig.model c.args.rig.now honest in
          let exact : c.saturating_add.result ≡ c.args.at + done = omega (arith, c.saturating_add.ensures, model.journal, room, c.loop-done.invariant.size, c.loop-done.invariant.within) in
          let F : ℕ → Type 0 = λ at. Fetches at before part b d (Ok n) in
          let got = subst F exact (c.in_ok-n.ensures.honest has.0.honest) in
          let bytes : take n part ≡ take n (drop done (drop c.args.at a.journal)) =
          got.bytes ∙ ap (λ (j : List ℕ). take n (drop (c.args.at + done) j)) has.0.journal ∙ ap (λ (xs : List ℕ). take n xs) (sym (drop-drop done c.args.at a.journal))
          in (
            looks-more a b d has.0 (fetched-looks (c.args.at + done) n before part b d got),
            filled-further done n buf part (post_of done k buf) (drop c.args.at a.journal) c.loop-done.invariant.within fits has.1 bytes,
          );
    }
