use Rattle.std.proofs.Common.{ℕ, ◌+◌, ◌<◌, ◌≤◌, length, take, get_or}
use Rattle.stm_image.specs.Layout.{IsLaidOut}
use Rattle.stm_image.specs.Pieces.{AllStand, Apart, next_apart, pairs_at, pairs_in}
use Rattle.stm_image.specs.declared.pieces.Piece.{Piece}
use Rattle.stm_image.proofs.layout.lay_out.Given as goal

-- the pieces so far are laid out, and none that is left begins before the last of them
abbrev pub invariant-loop-piece : goal.invariant-loop-piece
invariant-loop-piece l = record {
  stand : AllStand l.laid;
  apart : Apart 0 l.laid.list.items;
  next : next_apart 0 l.laid.list.items ≤ l.next + 1;
  low : ℕ;
  order : (k : ℕ) (d : Piece) → l.piece-index ≤ k → k < length l.list → low ≤ (get_or l.list k d).first;
  out : IsLaidOut (pairs_at l.bytes (take l.piece-index l.list)) (pairs_in l.laid) low l.next;
}
