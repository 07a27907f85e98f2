use Rattle.std.proofs.Common.{◌-◌}
use Rattle.stm_image.proofs.LaidRuns.{IsLaidTo}
use Rattle.stm_image.proofs.set.Image.lay.Given as goal

-- the bytes are laid up to an address
abbrev pub invariant-runs : goal.invariant-runs
invariant-runs l = IsLaidTo l.self l.address l.initial.bytes l.at l.bytes

abbrev pub decreases-runs : goal.decreases-runs
decreases-runs l = l.end - l.at
