use Rattle.std.proofs.Common.{get_or, subst, arith}
use borrow.Author.Count.{below_more}
use Rattle.std.proofs.lemmas.List.{get_or_default}
use Rattle.std.proofs.lemmas.List.Elements.{Contains-get_or}
use Rattle.stm_image.specs.Lay.{AgreesWith}
use Rattle.stm_image.specs.Pieces.{piece_bytes}
use Rattle.stm_image.specs.declared.pieces.Piece.{Piece}
use Rattle.stm_image.proofs.layout.first_unlike.Goals as goal

pub bytes_in-requires : goal.bytes_in-requires
bytes_in-requires c = c.requires _ (Contains-get_or c.args.list.now c.loop-piece.piece-index _ c.loop-piece-test.true)

-- one piece more agrees
pub loop-piece-preserved : goal.loop-piece-preserved
loop-piece-preserved c k d lt =
    let list = c.args.list.now in
    let i = c.loop-piece.piece-index in
    let A : Piece → Type 0 = λ q. AgreesWith c.args.set.now q.first (piece_bytes c.args.bytes.now q) in
    let p : Piece = get_or list i record { first = 0; last = 0; place = 0 } in
    let here : A (get_or list i d) = subst A (get_or_default list i _ d c.loop-piece-test.true) (rw c.bytes_in.ensures at c.in-None.ensures) in
    below_more (λ n. A (get_or list n d)) i (λ n less. c.loop-piece.invariant n d less) here k lt

pub returns : goal.returns
returns c p held =
    let list = c.args.list.now in
    rw held.2 at (c.loop-piece.invariant held.0 p (omega (arith, held.1, c.loop-piece-test.false)))
