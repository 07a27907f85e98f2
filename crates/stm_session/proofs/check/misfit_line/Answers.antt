use Rattle.std.proofs.Common.{◌+◌, ◌-◌, ◌<◌, length, drop, sym, ◌∙◌, ap, arith}
use Rattle.stm_journal.proofs.Names.{StateData}
use Rattle.stm_session.proofs.Names.{first_of, least_with, misfit_lines, misfit_lines_of, segment_pages}
use Rattle.stm_session.proofs.Misfits.{stack-step}
use Rattle.stm_session.proofs.check.misfit_line.Goals as goal

pub loop-newer-preserved : goal.loop-newer-preserved
loop-newer-preserved c =
    let s : StateData = c.args.journal.now.state in
    let within : c.loop-newer.newer < length s.stack = omega (arith, c.depth-depth.ensures.value) in
    ap (λ o. least_with o (misfit_lines (first_of c.args.most c.args.chip.now) (drop (c.loop-newer.newer + 1) s.stack)))
    (c.misfit_line_of-least.ensures ∙ ap (λ depth. least_with c.loop-newer.least (misfit_lines_of (first_of c.args.most c.args.chip.now) (segment_pages s (depth - c.loop-newer.newer)) (segment_pages s (depth - c.loop-newer.newer)))) c.depth-depth.ensures.value)
    ∙ sym (stack-step (first_of c.args.most c.args.chip.now) s c.loop-newer.newer c.loop-newer.least within)
    ∙ c.loop-newer.invariant
