use Rattle.std.proofs.Common.{rules, [], ◌≡◌, ◌+◌, ◌-◌, ◌*◌, ◌≤◌, ◌∙◌, ◌++◌, ℕ, List, length, take, drop, ap, subst, sym, arith, length-drop, take_all}
use borrow.Rule.Slice.PartMut.{post_of, same_len_mid}
use Rattle.std.proofs.lemmas.List.{length-take-le}
use Rattle.std.proofs.lemmas.Result.{err_from_is_err_and}
use Rattle.hex.specs.Hex.{encode_upper}
use Rattle.stm_journal.proofs.Names.{SaysAt}
use Rattle.stm_journal.proofs.Fetching.{GoesOn-fetches}
use Rattle.stm_journal.proofs.PageReads.{looks-more, looks-vain, filled-behind, filled-further, says-piece}
use Rattle.stm_journal.proofs.Bringing.{brings-more, brings-none, brings-same, encode-append, encode-none}
use Rattle.stm_journal.proofs.fetch_page.fetch_digits.Goals as goal

pub returns-in_err-fetch_piece-clause-calls : goal.returns-in_err-fetch_piece-clause-calls
returns-in_err-fetch_piece-clause-calls g c =
    let V = g.R.Rig.view in
    GoesOn-fetches (V c.args.rig.now).calls (V c.loop-done.rig).calls (V c.fetch_piece.new.rig).calls c.loop-done.invariant.calls c.in_err-fetch_piece.ensures.calls

pub returns-in_err-fetch_piece-clause-honest : goal.returns-in_err-fetch_piece-clause-honest
returns-in_err-fetch_piece-clause-honest g c = λ honest page size room is.
    let V = g.R.Rig.view in
    let done = c.loop-done.done in
    let count = c.min-count.result in
    let place = c.args.place in
    let buf = c.loop-done.buf in
    let a = V c.args.rig.now in
    let b = V c.loop-done.rig in
    let d = V c.fetch_piece.new.rig in
    let has = c.loop-done.invariant.read honest page size room is in
    let model = g.met.R.Rig.model c.args.rig.now honest in
    let fits : done + count ≤ place.length = omega (arith, c.min-count.ensures, c.loop-done.invariant.within, c.loop-done.invariant.size) in
    let exact : c.saturating_add-at.result ≡ place.at + 2 * done = omega (arith, c.saturating_add-at.ensures, c.saturating_add-behind.ensures, model.journal, room, fits) in
    let part : List ℕ = take count (drop done page) in
    let many : length part ≡ count = length-take-le count (drop done page) (omega (arith, fits, size, length-drop done page)) in
    let k : ℕ = (done + count) - done in
    let same_k : k ≡ count = omega arith in
    let slot : length (take k (drop done buf)) ≡ k = length-take-le k (drop done buf) (omega (arith, same_k, fits, c.loop-done.invariant.size, length-drop done buf)) in
    let J : List ℕ → Type 0 = λ j. SaysAt c.saturating_add-at.result part j in
    let says = subst J (sym has.0.journal) (says-piece a.journal page place.at place.length done count c.saturating_add-at.result is size room fits exact) in
    let got = c.in_err-fetch_piece.ensures.honest has.0.honest part (omega (arith, many, slot, same_k)) says in
    let p = err_from_is_err_and c.from_residual.result c.from_residual.ensures.1 in
    rw (p.1, p.2) (got.0, looks-vain a b d has.0 got.1)

pub loop-done-init : goal.loop-done-init
loop-done-init g c =
    let told = (g.R.Rig.view c.args.rig.now).told in
    record {
      within = search rules;
      size = search rules;
      cause = search rules;
      calls = search rules;
      told = brings-same [] (encode_upper []) told told (sym encode-none) (brings-none told);
      read = search rules;
    }

pub loop-done-preserved : goal.loop-done-preserved
loop-done-preserved g c =
    let V = g.R.Rig.view in
    let done = c.loop-done.done in
    let count = c.min-count.result in
    let place = c.args.place in
    let buf = c.loop-done.buf in
    let out = c.fetch_piece.new.out in
    let a = V c.args.rig.now in
    let b = V c.loop-done.rig in
    let d = V c.fetch_piece.new.rig in
    let k : ℕ = (done + count) - done in
    let same_k : k ≡ count = omega arith in
    let fits : done + count ≤ place.length = omega (arith, c.min-count.ensures, c.loop-done.invariant.within, c.loop-done.invariant.size) in
    let slot : length (take k (drop done buf)) ≡ k = length-take-le k (drop done buf) (omega (arith, same_k, fits, c.loop-done.invariant.size, length-drop done buf)) in
    let same = same_len_mid done k buf out c.fetch_piece.auto.out in
    record {
      within = omega (arith, same, fits, c.loop-done.invariant.size);
      size = same ∙ c.loop-done.invariant.size;
      cause = record {
        later = omega (arith, c.loop-done.invariant.cause.later, c.in_ok-fetch_piece.ensures.cause.later);
        done = c.in_ok-fetch_piece.ensures.cause.done ∙ c.loop-done.invariant.cause.done;
        failed = tt;
        line_count = c.in_ok-fetch_piece.ensures.cause.line_count ∙ c.loop-done.invariant.cause.line_count;
        honest = λ h. c.in_ok-fetch_piece.ensures.cause.honest (c.loop-done.invariant.cause.honest h);
      };
      calls = GoesOn-fetches a.calls b.calls d.calls c.loop-done.invariant.calls c.in_ok-fetch_piece.ensures.calls;
      told =
          let long : count ≤ length out = omega (arith, c.fetch_piece.auto.out, slot, same_k) in
          let few : length out ≤ count = omega (arith, c.fetch_piece.auto.out, slot, same_k) in
          let whole = filled-behind done count buf out (post_of done k buf) c.loop-done.invariant.within long ∙ ap (λ (xs : List ℕ). take done buf ++ xs) (take_all count out few) in
          brings-more (encode_upper (take done buf)) (encode_upper out) _ a.told b.told d.told
          (ap (λ (xs : List ℕ). encode_upper xs) whole ∙ encode-append (take done buf) out) c.loop-done.invariant.told c.in_ok-fetch_piece.ensures.told;
      read = λ honest page size room is.
          let has = c.loop-done.invariant.read honest page size room is in
          let model = g.met.R.Rig.model c.args.rig.now honest in
          let exact : c.saturating_add-at.result ≡ place.at + 2 * done = omega (arith, c.saturating_add-at.ensures, c.saturating_add-behind.ensures, model.journal, room, fits) in
          let part : List ℕ = take count (drop done page) in
          let many : length part ≡ count = length-take-le count (drop done page) (omega (arith, fits, size, length-drop done page)) in
          let J : List ℕ → Type 0 = λ j. SaysAt c.saturating_add-at.result part j in
          let says = subst J (sym has.0.journal) (says-piece a.journal page place.at place.length done count c.saturating_add-at.result is size room fits exact) in
          let got = c.in_ok-fetch_piece.ensures.honest has.0.honest part (omega (arith, many, slot, same_k)) says in
          let whole : take count out ≡ take count (drop done page) = ap (λ (xs : List ℕ). take count xs) got.1 ∙ take_all count part (omega (arith, many)) in
          let long : count ≤ length out = omega (arith, many, ap (λ (xs : List ℕ). length xs) got.1) in
          (looks-more a b d has.0 got.0, filled-further done count buf out (post_of done k buf) page c.loop-done.invariant.within long has.1 whole);
    }
