use Rattle.std.proofs.Common.{◌≡◌, ◌∙◌, ◌++◌, ◌+◌, ◌-◌, ap, arith}
use Rattle.stm_image.specs.Pairs.{raw_pairs}
use Rattle.stm_image.specs.Pieces.{pairs_in}
use Rattle.stm_image.proofs.Parting.{part_all, part_far, part_more}
use Rattle.stm_image.proofs.part.add_part.Goals as goal

-- the image has nothing more
pub returns-in-None-clause-part : goal.returns-in-None-clause-part
returns-in-None-clause-part c =
    let so_far = c.runs.invariant in
    let low = so_far.from in
    let high = so_far.to in
    part_all (pairs_in c.args.runs.now) c.args.image.now (pairs_in c.runs.runs) c.args.start (c.runs.at - c.args.start) c.args.size (omega arith)
    (λ p held within. let none = c.in-None.ensures p held in omega arith) so_far.part

-- the next run lies behind
pub returns-then-end-from-clause-part : goal.returns-then-end-from-clause-part
returns-then-end-from-clause-part c =
    let so_far = c.runs.invariant in
    part_far (pairs_in c.args.runs.now) c.args.image.now (pairs_in c.runs.runs) c.args.start c.runs.at c.in-Some.first c.args.size c.in-Some.held.now c.rises.ensures.rises c.in-Some.ensures
    so_far.from (omega (arith, so_far.to)) (omega (arith, c.if-end-from.true)) so_far.part

-- one run more
pub runs-preserved : goal.runs-preserved
runs-preserved c =
    let so_far = c.runs.invariant in
    let low = so_far.from in
    let high = so_far.to in
    let run = c.in-Some.ensures in
    let from = run.from in
    let adds = c.in_ok-add-in-Some.ensures.ok in
    let k = c.min.result in
    let room = c.if-end-from.false in
    let some = run.some in
    let split = c.split_at.ensures in
    let count = c.min.ensures in
    let here : c.from-in-Some.result ≡ c.in-Some.first = c.from-in-Some.ensures in
    let next : c.from-in-Some-3.result ≡ c.in-Some.first = c.from-in-Some-3.ensures in
    record {
      from = omega (arith, next);
      to = omega (arith, next, here, room, count, split.front_len);
      stand = adds.stand;
      apart = adds.apart so_far.apart (omega (arith, so_far.next));
      next = omega (arith, next, adds.next (omega (arith, here, room, count, split.front_len)));
      part = rw (next, split.front_len) (part_more (pairs_in c.args.runs.now) c.args.image.now (pairs_in c.runs.runs) (pairs_in c.add.new.self) c.args.start c.runs.at c.in-Some.first k c.in-Some.held.now
          c.rises.ensures.rises run (omega (arith, split.back_len)) low (adds.pairs ∙ ap (λ b. pairs_in c.runs.runs ++ raw_pairs c.in-Some.first b) split.front) so_far.part);
    }
