use Rattle.std.proofs.Common.{◌≡◌, ◌+◌, ◌<◌, inl, inr, length, slice_index, slice_set, sym, ap, ◌∙◌, arith}
use Rattle.std.proofs.lemmas.Bool.{cases_lt}
use Rattle.std.proofs.lemmas.List.{length-set}
use Rattle.stm_image.proofs.LaidRuns.{set_there, set_elsewhere}
use Rattle.stm_image.proofs.laying.put_at.Goals as goal

-- no room is left
pub returns-then-i-room : goal.returns-then-i-room
returns-then-i-room c =
    let kept = c.loop-i.invariant in
    let full = c.if-i-room.true in
    record {
      same_length = kept.same_length;
      over = λ k lt within. kept.over k (omega arith);
      before = kept.before;
      after = λ k past. kept.after k (omega (arith, c.loop-i-test.true));
    }

-- one byte more
pub loop-i-preserved : goal.loop-i-preserved
loop-i-preserved c =
    let kept = c.loop-i.invariant in
    let to = c.loop-i.to in
    let at = c.args.skip + c.loop-i.i in
    let byte = slice_index c.args.from.now c.loop-i.i in
    let room = c.if-i-room.false in
    let within : at < length to = omega (arith, kept.same_length) in
    record {
      same_length = length-set to at byte ∙ kept.same_length;
      over = λ k lt. elim (cases_lt k c.loop-i.i) [
        | inl early ↦ set_elsewhere to at (c.args.skip + k) byte (λ e. omega (arith, e, early)) ∙ kept.over k early
        | inr late ↦
            let here : k ≡ c.loop-i.i = omega arith in
            ap (λ n. slice_index (slice_set to at byte) (c.args.skip + n)) here ∙ set_there to at byte within ∙ ap (slice_index c.args.from.now) (sym here)
      ];
      before = λ k lt. set_elsewhere to at k byte (λ e. omega (arith, e, lt)) ∙ kept.before k lt;
      after = λ k past. set_elsewhere to at k byte (λ e. omega (arith, e, past)) ∙ kept.after k (omega (arith, past));
    }

pub returns : goal.returns
returns c =
    let kept = c.loop-i.invariant in
    let all = c.loop-i-test.false in
    record {
      same_length = kept.same_length;
      over = λ k lt within. kept.over k (omega arith);
      before = kept.before;
      after = λ k past. kept.after k (omega (arith, past, c.loop-i.auto.i-end));
    }
