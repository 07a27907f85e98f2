use Rattle.std.proofs.Common.{sym, ◌∙◌}
use Rattle.stm_files.proofs.Damages.{none-more}
use Rattle.stm_files.proofs.damage.find_damage.Goals as goal

pub loop-newer-preserved : goal.loop-newer-preserved
loop-newer-preserved g c = λ bytes s tied.
    let so = c.loop-newer.invariant bytes s tied in
    let got = c.in_ok-found.ensures.honest bytes s so.0 in (
      got.0,
      none-more bytes s c.args.journal.now.state c.loop-newer.newer c.depth-depth.result c.in_ok-found.found tied.state c.depth-depth.ensures.value (sym c.is_some.ensures ∙ c.if-is_some.false) got.1 so.1,
    )
