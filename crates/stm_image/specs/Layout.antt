-- A set made of pieces that may overlap.
use Rattle.std.specs.Prelude.{ℕ, ◌<◌, ◌≤◌, List, Contains}
use Rattle.stm_image.specs.Lay.{AgreesWith, DiffersAt}
use Rattle.stm_image.specs.Pairs.{Pairs}
use Rattle.stm_image.specs.Pieces.{IsWithin, piece_bytes}
use Rattle.stm_image.specs.declared.pieces.Piece.{Piece}

-- each piece stands among so many bytes
abbrev pub AllWithin : ℕ → List Piece → Type 0
AllWithin count list = (p : Piece) → Contains list p → IsWithin count p

-- each pair of a set is among these
abbrev pub IsAmong : Pairs → Pairs → Type 0
IsAmong set pairs = (q : ℕ × ℕ) → Contains set q → Contains pairs q

-- a set has some byte at each address of these pairs
abbrev pub Covers : Pairs → Pairs → Type 0
Covers set pairs = (q : ℕ × ℕ) → Contains pairs q → (b : ℕ) × Contains set (q.0, b)

-- a set has no other byte than each piece, wherever it names their places
abbrev pub AllAgree : Pairs → List ℕ → List Piece → Type 0
AllAgree set bytes list = (p : Piece) → Contains list p → AgreesWith set p.first (piece_bytes bytes p)

-- it has another byte than some piece, at a place
pub record HasDifference (set : Pairs) (bytes : List ℕ) (list : List Piece) (place : ℕ) : Type 0 where
  pub piece : Piece
  pub held : Contains list piece
  pub differs : DiffersAt set piece.first (piece_bytes bytes piece) place

-- what was laid out of some pairs so far: one more than the last address is `next`, and from
-- `low` on no address is free
pub record IsLaidOut (done laid : Pairs) (low next : ℕ) : Type 0 where
  pub among : IsAmong laid done
  pub covers : Covers laid done
  pub filled : (a : ℕ) → low ≤ a → a < next → (b : ℕ) × Contains laid (a, b)
