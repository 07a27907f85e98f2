use Rattle.std.proofs.Common.{◌≡◌, ◌++◌, take}
use Rattle.stm_image.specs.Pieces.{AllStand, pairs_at, pairs_in}
use Rattle.stm_image.proofs.joining.add_runs.Given as goal

-- the runs so far were added
abbrev pub invariant-loop-run : goal.invariant-loop-run
invariant-loop-run l = AllStand l.pieces × (pairs_in l.pieces ≡ pairs_in l.fn.pieces ++ pairs_at l.bytes (take l.run-index l.run-items))
