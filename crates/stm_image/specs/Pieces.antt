-- Bytes in pieces, each of which stands at consecutive addresses.
use Rattle.std.specs.Prelude.{ℕ, ◌≡◌, ◌<◌, ◌≤◌, ◌+◌, ◌-◌, ◌^◌, List, [], ◌∷◌, ◌++◌, length, take}
use Rattle.std.specs.Prelude.{drop, slice_index_or}
use Rattle.stm_image.specs.Pairs.{Pairs, IsImage, raw_pairs}
use Rattle.stm_image.specs.declared.pieces.Piece.{Piece}
use Rattle.stm_image.specs.declared.pieces.Mark.{Mark}
use Rattle.stm_image.specs.declared.pieces.Pieces.{Pieces}

-- how many bytes a piece has
abbrev pub piece_size : Piece → ℕ
piece_size p = p.last + 1 - p.first

-- the bytes of a piece, and its pairs, where `bytes` are those of all pieces
abbrev pub piece_bytes : List ℕ → Piece → List ℕ
piece_bytes bytes p = take (piece_size p) (drop p.place bytes)

abbrev pub pairs_of_piece : List ℕ → Piece → Pairs
pairs_of_piece bytes p = raw_pairs p.first (piece_bytes bytes p)

abbrev pub pairs_at : List ℕ → List Piece → Pairs
pairs_at bytes [] = []
pairs_at bytes (p ∷ pieces) = pairs_of_piece bytes p ++ pairs_at bytes pieces

-- each piece has a byte, its addresses have 32 bits, and they stand one after the other among all
-- bytes, from one place up to another
abbrev pub Stand : ℕ → ℕ → List Piece → Type 0
Stand from to [] = from ≡ to
Stand from to (p ∷ pieces) =
    (p.place ≡ from) × (p.first ≤ p.last) × (p.last < 2 ^ 32) × Stand (from + piece_size p) to pieces

-- a piece has a byte, its addresses have 32 bits, and it stands among so many bytes
pub record IsWithin (to : ℕ) (p : Piece) : Type 0 where
  pub order : p.first ≤ p.last
  pub fits : p.last < 2 ^ 32
  pub ends : p.place + piece_size p ≤ to

-- the pieces begin at an address or after it, in their order, with a gap between any two
abbrev pub Apart : ℕ → List Piece → Type 0
Apart least [] = Unit {0}
Apart least (p ∷ pieces) = (least ≤ p.first) × Apart (p.last + 2) pieces

-- the least address at which one more piece is apart from these
abbrev pub next_apart : ℕ → List Piece → ℕ
next_apart least [] = least
next_apart least (p ∷ pieces) = next_apart (p.last + 2) pieces

-- the pairs of all pieces
abbrev pub pairs_in : Pieces → Pairs
pairs_in p = pairs_at p.bytes.items p.list.items

abbrev pub AllStand : Pieces → Type 0
AllStand p = Stand 0 (length p.bytes.items) p.list.items

-- bytes were added to these, from an address on
pub record AddsFrom (bytes : List ℕ) (list : List Piece) (start : ℕ) (more bytes_after : List ℕ)
    (list_after : List Piece) : Type 0 where
  pub stand : Stand 0 (length bytes_after) list_after
  pub pairs : pairs_at bytes_after list_after ≡ pairs_at bytes list ++ raw_pairs start more
  pub apart : Apart 0 list → next_apart 0 list ≤ start + 1 → Apart 0 list_after
  pub next : 0 < length more → next_apart 0 list_after ≡ start + length more + 1
  pub kept_bytes : take (length bytes) bytes_after ≡ bytes
  pub kept_list : take (length list - 1) list_after ≡ take (length list - 1) list
  pub longer : length list ≤ length list_after

abbrev pub AreAdded : Pieces → Pieces → ℕ → List ℕ → Type 0
AreAdded old new start more =
    AddsFrom old.bytes.items old.list.items start more new.bytes.items new.list.items

-- nothing was
pub record AreAsBefore (old new : Pieces) : Type 0 where
  pub bytes : new.bytes.items ≡ old.bytes.items
  pub list : new.list.items ≡ old.list.items

-- how many bytes and pieces there are, and the last piece, if any
pub record IsMark (p : Pieces) (mark : Mark) : Type 0 where
  pub bytes : mark.bytes ≡ length p.bytes.items
  pub count : mark.count ≡ length p.list.items
  pub last : 0 < mark.count → mark.last ≡ slice_index_or p.list.items (mark.count - 1) mark.last

-- pieces that went back to a mark
pub record IsBack (old : Pieces) (mark : Mark) (new : Pieces) : Type 0 where
  pub bytes : new.bytes.items ≡ take mark.bytes old.bytes.items
  pub none : mark.count ≡ 0 → new.list.items ≡ []
  pub list : 0 < mark.count
      → new.list.items ≡ take (mark.count - 1) old.list.items ++ mark.last ∷ []

-- pieces that are the runs of an image
pub record AreRuns (p : Pieces) : Type 0 where
  pub stand : AllStand p
  pub apart : Apart 0 p.list.items
  pub image : IsImage (pairs_in p)
