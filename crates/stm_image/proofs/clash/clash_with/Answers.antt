use Rattle.std.proofs.Common.{ℕ, List, length, get_or, sym, subst, ◌∙◌, arith}
use borrow.Author.Count.{below_more}
use Rattle.std.proofs.lemmas.List.{get_or_default, get_or-take, length-take}
use Rattle.std.proofs.lemmas.List.Elements.{Contains-get_or}
use Rattle.stm_image.specs.Lay.{AgreesWith, IsFirstDifference}
use Rattle.stm_image.specs.Pieces.{piece_bytes}
use Rattle.stm_image.specs.declared.pieces.Piece.{Piece}
use Rattle.stm_image.proofs.Clashing.{all_agree, clash_at}
use Rattle.stm_image.proofs.Lying.{stands_within}
use Rattle.stm_image.proofs.clash.clash_with.Goals as goal

pub bytes_in-requires : goal.bytes_in-requires
bytes_in-requires c = stands_within 0 (length c.args.bytes.now) c.args.list.now _ c.requires.stand (Contains-get_or c.args.list.now c.loop-piece.piece-index _ c.loop-piece-test.true)

-- a byte of this piece is another
pub returns-in-Some : goal.returns-in-Some
returns-in-Some c =
    let bytes = c.args.bytes.now in
    let list = c.args.list.now in
    let i = c.loop-piece.piece-index in
    let d : Piece = record { first = 0; last = 0; place = 0 } in
    let p : Piece = get_or list i d in
    let lt = c.loop-piece-test.true in
    let taken = length-take i list in
    let D : List ℕ → Type 0 = λ b. IsFirstDifference c.args.set.now p.first b c.in-Some.address in
    let A : Piece → Type 0 = λ q. AgreesWith c.args.set.now q.first (piece_bytes bytes q) in
    clash_at c.args.set.now bytes list i p c.in-Some.address c.requires.stand lt (get_or_default list i d p lt) c.requires.firsts
    (λ r held. subst A (sym (get_or-take i list held.0 r (omega (arith, held.1))) ∙ held.2) (c.loop-piece.invariant held.0 r (omega (arith, held.1))))
    (subst D c.bytes_in.ensures c.in-Some.ensures)

-- one piece more agrees
pub loop-piece-preserved : goal.loop-piece-preserved
loop-piece-preserved c k d lt =
    let list = c.args.list.now in
    let i = c.loop-piece.piece-index in
    let A : Piece → Type 0 = λ q. AgreesWith c.args.set.now q.first (piece_bytes c.args.bytes.now q) in
    let p : Piece = get_or list i record { first = 0; last = 0; place = 0 } in
    let here : A (get_or list i d) = subst A (get_or_default list i _ d c.loop-piece-test.true) (rw c.bytes_in.ensures at c.in-None.ensures) in
    below_more (λ n. A (get_or list n d)) i (λ n less. c.loop-piece.invariant n d less) here k lt

-- all pieces would agree
pub unreachable-requires : goal.unreachable-requires
unreachable-requires c =
    let list = c.args.list.now in
    c.requires.differs (all_agree c.args.set.now c.args.bytes.now list c.requires.stand c.requires.firsts
    (λ r held. rw held.2 at (c.loop-piece.invariant held.0 r (omega (arith, held.1, c.loop-piece-test.false)))))
