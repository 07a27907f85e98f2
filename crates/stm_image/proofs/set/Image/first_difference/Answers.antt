use Rattle.std.proofs.Common.{◌≡◌, rules, arith}
use Rattle.stm_image.proofs.Laid.{past_all, none_differs, far_next, first_in_run, alike_more, run_fits}
use Rattle.stm_image.proofs.set.Image.first_difference.Goals as goal

-- past the last address of all
pub returns-then-at-gt4294967295 : goal.returns-then-at-gt4294967295
returns-then-at-gt4294967295 c =
    let past = c.if-at-gt4294967295.true in
    past_all c.args.self.now c.args.address c.runs.at c.args.bytes.now c.rises.ensures.in_range (omega arith) c.runs.invariant.same

-- past the last place of the image
pub returns-in-None : goal.returns-in-None
returns-in-None c = none_differs c.args.self.now c.args.address c.runs.at c.args.bytes.now c.in-None.ensures c.runs.invariant.same

-- the next run lies past the bytes
pub returns-then-skip-bytes : goal.returns-then-skip-bytes
returns-then-skip-bytes c =
    let run = c.in-Some.ensures in
    let from = run.from in
    let low = c.runs.invariant.from in
    let past = c.if-skip-bytes.true in
    far_next c.args.self.now c.args.address c.runs.at c.in-Some.start c.args.bytes.now c.in-Some.held.now c.rises.ensures.rises run (omega arith) c.runs.invariant.same

pub overflow_cast-result : goal.overflow_cast-result
overflow_cast-result c = let fits = run_fits c.args.self.now c.runs.at c.in-Some.start c.in-Some-first_other.place c.in-Some.held.now c.rises.ensures c.in-Some.ensures c.in-Some-first_other.ensures.in_first in omega arith

pub overflow_add-result : goal.overflow_add-result
overflow_add-result c = let fits = run_fits c.args.self.now c.runs.at c.in-Some.start c.in-Some-first_other.place c.in-Some.held.now c.rises.ensures c.in-Some.ensures c.in-Some-first_other.ensures.in_first in omega arith

-- the first place of the run that is another
pub returns-in-Some-first_other : goal.returns-in-Some-first_other
returns-in-Some-first_other c =
    first_in_run c.args.self.now c.args.address c.runs.at c.in-Some.start c.in-Some-first_other.place c.args.bytes.now c.in-Some.held.now c.rises.ensures.rises c.in-Some.ensures c.runs.invariant.from
    (rw c.split_at.ensures.back at c.in-Some-first_other.ensures) c.runs.invariant.same

-- the run is alike
pub runs-preserved : goal.runs-preserved
runs-preserved c =
    let run = c.in-Some.ensures in
    let from = run.from in
    let low = c.runs.invariant.from in
    let at : c.from-in-None-first_other.result ≡ c.in-Some.start = first_of (omega (arith, c.from-in-None-first_other.ensures), search (rules, c.from-in-None-first_other.ensures)) in
    let more = alike_more c.args.self.now c.args.address c.runs.at c.in-Some.start c.args.bytes.now c.in-Some.held.now c.rises.ensures.rises run low (rw c.split_at.ensures.back at c.in-None-first_other.ensures) c.runs.invariant.same in
    record { from = omega (arith, at); same = λ p lt. more p (omega (arith, at, lt)) }
