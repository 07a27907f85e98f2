use Rattle.std.proofs.Common.{◌≡◌, length, arith}
use Rattle.stm_image.specs.declared.pieces.Piece.{Piece}
use Rattle.stm_image.proofs.Standing.{adds_piece}
use Rattle.stm_image.proofs.pieces.Pieces.add_piece.Goals as goal

pub returns-clause-ok : goal.returns-clause-ok
returns-clause-ok c =
    let old = c.args.self.now in
    let more = c.args.bytes.now in
    let given = c.requires in
    let p : Piece = record { first = c.args.first; last = c.args.last; place = c.len-place.result } in
    let at : c.len-place.result ≡ length old.bytes.items = omega (arith, c.len-place.ensures, old.bytes.ok.0) in
    let adds = adds_piece old.bytes.items more old.list.items p given.stand at given.long given.some (omega arith) given.apart in
    rw c.in-Ok.ensures.items (rw c.in_ok-extend_from_slice.ensures.items adds)
