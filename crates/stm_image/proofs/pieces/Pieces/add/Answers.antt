use Rattle.std.proofs.Common.{◌≡◌, ◌+◌, ◌-◌, ◌<◌, ◌^◌, refl, length, arith}
use Rattle.std.proofs.lemmas.Bool.Decides.{nat_tests}
use Rattle.stm_image.specs.Pieces.{next_apart}
use Rattle.stm_image.specs.declared.pieces.Piece.{Piece}
use Rattle.stm_image.proofs.Standing.{adds_on, next_at_last, none_before}
use Rattle.stm_image.proofs.pieces.Pieces.add.Goals as goal
use Rattle.stm_image.proofs.pieces.Pieces.add.Goals.{then-count-gt0+else-start-gt0, else-start-gt0-via-then-start-gt0+else-piece-start, else-start-gt0-via-else-start-gt0, else-count-gt0}

-- the last piece grows
pub returns-then-piece-start-clause-ok : goal.returns-then-piece-start-clause-ok
returns-then-piece-start-clause-ok c =
    let old = c.args.self.now in
    let more = c.args.bytes.now in
    let n = c.len-count.result - 1 in
    let p = c.index-piece.result.now in
    let q : Piece = record { first = p.first; last = c.args.start + (length more - 1); place = p.place } in
    let some : 0 < length more = grind (arith, nat_tests) in
    let count : n + 1 ≡ length old.list.items = omega (arith, c.len-count.ensures, c.if-count-gt0.true, old.list.ok.0) in
    let next : p.last + 1 ≡ c.args.start = omega (arith, c.if-start-gt0.true, c.if-piece-start.true) in
    let grown : c.args.start + (length more - 1) ≡ p.last + length more = omega arith in
    let fits : c.args.start + (length more - 1) < 2 ^ 32 = omega (arith, c.requires.fits) in
    let adds = adds_on old.bytes.items more old.list.items n c.args.start p q c.requires.stand count c.index-piece.ensures refl refl next grown fits in
    rw c.in_ok-extend_from_slice.ensures.items adds

-- the new bytes do not go on there
pub add_piece-requires-clause-apart : goal.add_piece-requires-clause-apart
add_piece-requires-clause-apart c e =
    let list = c.args.self.now.list in
    elim c.if-count-gt0.branch [
      | then-count-gt0+else-start-gt0 w ↦
          let p = w.index-piece.result.now in
          let count : (c.len-count.result - 1) + 1 ≡ length list.items = omega (arith, c.len-count.ensures, w.if-count-gt0.true, list.ok.0) in
          let next : next_apart 0 list.items ≡ p.last + 2 = next_at_last list.items (c.len-count.result - 1) p count w.index-piece.ensures in
          elim w.else-start-gt0.branch [
            | else-start-gt0-via-then-start-gt0+else-piece-start w' ↦ w'.if-piece-start.false (omega (arith, next, e, w'.if-start-gt0.true))
            | else-start-gt0-via-else-start-gt0 w' ↦ omega (arith, next, e, w'.if-start-gt0.false)
          ]
      | else-count-gt0 w ↦
          let none : next_apart 0 list.items ≡ 0 = none_before list.items (omega (arith, c.len-count.ensures, w.if-count-gt0.false, list.ok.0)) in
          omega (arith, none, e)
    ]
