use Rattle.std.proofs.Common.{drop}
use Rattle.stm_image.specs.Pieces.{Apart}
use Rattle.stm_image.proofs.layout.are_apart.Given as goal

-- the pieces are apart if those that are left are
abbrev pub invariant-loop-piece : goal.invariant-loop-piece
invariant-loop-piece l = Apart l.least (drop l.piece-index l.list) → Apart 0 l.list
