use Rattle.std.proofs.Common.{◌-◌, ◌<◌, ℕ, length, ap, arith}
use Rattle.stm_session.proofs.Names.{bytes_of_pages, segment_pages}
use Rattle.stm_session.proofs.ReturnedBytes.{kept_more}
use Rattle.stm_session.proofs.returned_bytes.kept_bytes.Goals as goal

pub loop-newer-preserved : goal.loop-newer-preserved
loop-newer-preserved c =
    let s = c.args.journal.now.state in
    let chip = c.args.chip.now in
    let i = c.loop-newer.newer in
    let lt : i < length s.stack = omega (arith, c.loop-newer-test.true, c.requires.some) in
    let depth = ap (λ (d : ℕ). bytes_of_pages chip (segment_pages s (d - i))) c.depth-depth.ensures.value in
    let next = kept_more chip s i lt in
    omega (arith, next, depth, c.loop-newer.invariant, c.with_segment-sum.ensures)
