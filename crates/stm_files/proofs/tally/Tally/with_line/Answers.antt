use Rattle.std.proofs.Common.{refl, arith, false}
use Rattle.stm_files.specs.declared.tally.Tally.{Tally}
use Rattle.stm_files.proofs.Tallies.{one-line-more}
use Rattle.stm_files.proofs.tally.Tally.with_line.Goals as goal

pub returns : goal.returns
returns c =
    λ bytes is few.
    let u : Tally = record { lines = c.saturating_add-lines.result; voids = c.more_if-voids.result; tail = 0; is_marked = false } in
    one-line-more bytes c.args.self u is few (omega (arith, c.saturating_add-lines.ensures)) c.more_if-voids.ensures refl refl
