use Rattle.std.proofs.Common.{◌≡◌, arith}
use Rattle.stm_image.proofs.LaidRuns.{laid_start, laid_run, laid_all, laid_none, laid_far}
use Rattle.stm_image.proofs.set.Image.lay.Goals as goal

pub runs-init : goal.runs-init
runs-init c =
    let at : c.from-at.result ≡ c.args.address = c.from-at.ensures in
    rw at (laid_start c.args.self.now c.args.address c.args.bytes.now)

-- one run more
pub runs-preserved : goal.runs-preserved
runs-preserved c =
    rw c.from-in-Some.ensures (laid_run c.args.self.now c.args.address c.runs.at c.in-Some.start c.args.bytes.now c.runs.bytes c.put_at.new.to c.in-Some.held.now c.rises.ensures.rises c.in-Some.ensures c.runs.invariant c.put_at.ensures)

-- nothing more is in the image
pub returns-in-None : goal.returns-in-None
returns-in-None c = laid_none c.args.self.now c.args.address c.runs.at c.args.bytes.now c.runs.bytes c.runs.invariant c.in-None.ensures

-- the next run lies past the bytes
pub returns-then-skip-bytes : goal.returns-then-skip-bytes
returns-then-skip-bytes c =
    let run = c.in-Some.ensures in
    let up = run.from in
    let low = c.runs.invariant.from in
    let same = c.runs.invariant.same_length in
    let past = c.if-skip-bytes.true in
    laid_far c.args.self.now c.args.address c.runs.at c.in-Some.start c.args.bytes.now c.runs.bytes c.in-Some.held.now c.rises.ensures.rises run c.runs.invariant (omega arith)

-- all bytes are laid
pub returns : goal.returns
returns c = laid_all c.args.self.now c.args.address c.runs.at c.args.bytes.now c.runs.bytes c.runs.invariant (omega (arith, c.runs-test.false, c.from.ensures))
