use Rattle.std.proofs.Common.{ℕ, ◌<◌, get_or}
use Rattle.stm_image.specs.Lay.{AgreesWith}
use Rattle.stm_image.specs.Pieces.{piece_bytes}
use Rattle.stm_image.specs.declared.pieces.Piece.{Piece}
use Rattle.stm_image.proofs.layout.first_unlike.Given as goal

-- the set agrees with each piece so far
abbrev pub invariant-loop-piece : goal.invariant-loop-piece
invariant-loop-piece l = (k : ℕ) (d : Piece) → k < l.piece-index → AgreesWith l.set (get_or l.list k d).first (piece_bytes l.bytes (get_or l.list k d))
