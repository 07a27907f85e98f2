-- Each run adds its pages, or no chip has them all.
use Rattle.std.proofs.Common.{◌∙◌, ◌++◌, ap, sym, get_or, pos}
use Rattle.std.proofs.lemmas.List.Elements.{All-more}
use Rattle.stm_chip.specs.Entry.{IsRun, pages_of}
use Rattle.stm_chip.proofs.Paging.{pages_more, unpaged_at}
use Rattle.stm_chip.proofs.entry.page_sizes.Goals as goal

pub returns-then-not-branch : goal.returns-then-not-branch
returns-then-not-branch c =
    let cannot = rw c.if-not-branch.true at c.in_ok-add_run.ensures in
    unpaged_at c.args.runs.now c.loop-run.run-index (pos 0, pos 0) c.loop-run.sizes.items c.loop-run-test.true c.loop-run.invariant.1 cannot

pub loop-run-preserved : goal.loop-run-preserved
loop-run-preserved c =
    let runs = c.args.runs.now in
    let i = c.loop-run.run-index in
    let added = rw c.if-not-branch.false at c.in_ok-add_run.ensures in (
      All-more IsRun runs i (pos 0, pos 0) c.loop-run-test.true c.loop-run.invariant.0 added.0,
      added.1 ∙ ap (λ sizes. sizes ++ pages_of (get_or runs i (pos 0, pos 0))) c.loop-run.invariant.1 ∙ sym (pages_more runs i (pos 0, pos 0) c.loop-run-test.true),
    )
