use Rattle.std.proofs.Common.{◌≡◌, List, length, sym, ap₂, subst}
use Rattle.std.proofs.lemmas.List.Sorted.{IsPermutation-sym, IsPermutation-trans}
use Rattle.stm_image.specs.Clash.{IsClash}
use Rattle.stm_image.specs.Layout.{Covers}
use Rattle.stm_image.specs.Pieces.{Stand, pairs_at}
use Rattle.stm_image.specs.declared.pieces.Piece.{Piece}
use Rattle.stm_image.proofs.Overlaps.{within_moved, set_agreeing, set_moved, agree_moved, pairs_moved, pairs_differ}
use Rattle.stm_image.proofs.Restoring.{sorted_back}
use Rattle.stm_image.proofs.Sets.{agree_from_set}
use Rattle.stm_image.proofs.layout.sorted_set.Goals as goal

pub lay_out-requires-clause-within : goal.lay_out-requires-clause-within
lay_out-requires-clause-within c =
    let pieces = c.args.pieces in
    rw c.as_slice-bytes.ensures.value (rw c.as_slice-list.ensures.value (within_moved (length pieces.bytes.items) pieces.list.items c.sort_pieces.new.list.items c.requires c.sort_pieces.ensures.moved))

pub first_unlike-requires : goal.first_unlike-requires
first_unlike-requires c =
    let pieces = c.args.pieces in
    rw c.as_slice-bytes.ensures.value (rw c.as_slice-list.ensures.value (within_moved (length pieces.bytes.items) pieces.list.items c.sort_pieces.new.list.items c.requires c.sort_pieces.ensures.moved))

-- the set has each byte of the pieces
pub returns : goal.returns
returns c =
    let pieces = c.args.pieces in
    let bytes = c.as_slice-bytes.result.now in
    let list = c.as_slice-list.result.now in
    let set = c.in_ok-set.set in
    let found = c.in_ok-set.ensures in
    let is = set_agreeing set bytes list c.rises.ensures.rises found.among found.covers c.in_default.ensures in
    let same : pairs_at bytes list ≡ pairs_at pieces.bytes.items c.sort_pieces.new.list.items = ap₂ pairs_at c.as_slice-bytes.ensures.value c.as_slice-list.ensures.value in
    let whole = set_moved set pieces.bytes.items pieces.list.items c.sort_pieces.new.list.items c.sort_pieces.ensures.moved (rw same at is) in
    (whole, agree_from_set set _ whole)

-- an address has two bytes: the pieces, back in their order
pub first_clash-requires-clause-stand : goal.first_clash-requires-clause-stand
first_clash-requires-clause-stand c =
    let pieces = c.args.pieces in
    let back = sorted_back (length pieces.bytes.items) pieces.list.items c.sort_back.new.list.items c.requires (IsPermutation-trans _ _ _ c.sort_pieces.ensures.moved c.sort_back.ensures.moved) c.sort_back.ensures.order in
    subst (λ (l : List Piece). Stand 0 (length pieces.bytes.items) l) (sym back) c.requires

pub first_clash-requires-clause-covers : goal.first_clash-requires-clause-covers
first_clash-requires-clause-covers c =
    let pieces = c.args.pieces in
    let set = c.in_ok-set.set in
    let same : pairs_at c.as_slice-bytes.result.now c.as_slice-list.result.now ≡ pairs_at pieces.bytes.items c.sort_pieces.new.list.items = ap₂ pairs_at c.as_slice-bytes.ensures.value c.as_slice-list.ensures.value in
    let covers = subst (Covers set) same c.in_ok-set.ensures.covers in
    λ q held. covers q (pairs_moved pieces.bytes.items c.sort_back.new.list.items c.sort_pieces.new.list.items q (IsPermutation-sym _ _ c.sort_back.ensures.moved) held)

pub first_clash-requires-clause-differs : goal.first_clash-requires-clause-differs
first_clash-requires-clause-differs c agree =
    let pieces = c.args.pieces in
    let bytes = c.as_slice-bytes.result.now in
    let list = c.as_slice-list.result.now in
    let same : pairs_at bytes list ≡ pairs_at pieces.bytes.items c.sort_pieces.new.list.items = ap₂ pairs_at c.as_slice-bytes.ensures.value c.as_slice-list.ensures.value in
    pairs_differ c.in_ok-set.set bytes list c.in-Some._place c.in_ok-set.ensures.among c.in-Some.ensures (rw same (agree_moved pieces.bytes.items c.sort_back.new.list.items c.sort_pieces.new.list.items (IsPermutation-sym _ _ c.sort_back.ensures.moved) agree))

pub returns-in-Some : goal.returns-in-Some
returns-in-Some c =
    let pieces = c.args.pieces in
    let back = sorted_back (length pieces.bytes.items) pieces.list.items c.sort_back.new.list.items c.requires (IsPermutation-trans _ _ _ c.sort_pieces.ensures.moved c.sort_back.ensures.moved) c.sort_back.ensures.order in
    subst (λ (l : List Piece). IsClash (pairs_at pieces.bytes.items l) c.first_clash.result) back c.first_clash.ensures
