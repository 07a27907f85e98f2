use Rattle.std.proofs.Common.{◌++◌, ◌+◌, ◌∙◌, List, ℕ, ap, arith}
use Rattle.stm_files.specs.Checking.{checked_segment}
use Rattle.stm_files.proofs.Checks.{text-more}
use Rattle.stm_files.proofs.checking.add_segments.Goals as goal

pub loop-k-preserved : goal.loop-k-preserved
loop-k-preserved g c =
    λ bytes s tied.
    let so = c.loop-k.invariant bytes s tied in
    let more = c.in_ok-add_whole_segment.ensures.honest bytes s so.0 in
    let k = c.loop-k.k in (
      more.0,
      more.1 ∙ ap (λ (xs : List ℕ). xs ++ checked_segment s (k + 1)) so.1 ∙ text-more (checked_segment s) c.args.out.now.items 1 k (k + 1) (omega arith),
    )
