use Rattle.std.proofs.Common.{◌≡◌, ◌+◌, ◌-◌, ℕ, length, drop, get_or, subst, arith}
use Rattle.std.proofs.lemmas.List.Elements.{Contains-get_or}
use Rattle.stm_image.specs.Pieces.{pairs_at}
use Rattle.stm_image.specs.declared.pieces.Piece.{Piece}
use Rattle.stm_image.proofs.Clashing.{IsPutDown, has_all, none_put, piece_named, piece_put, all_put}
use Rattle.stm_image.proofs.clash.put_firsts.Goals as goal

pub pieces-init : goal.pieces-init
pieces-init c =
    let bytes = c.args.bytes.now in
    let list = c.args.list.now in
    record { within = omega arith; down = none_put c.args.set.now bytes list (length list) (omega arith) (has_all c.args.set.now (pairs_at bytes list) c.requires.covers) }

pub bytes_in-requires : goal.bytes_in-requires
bytes_in-requires c = c.requires.within _ (Contains-get_or c.args.list.now (c.pieces.left - 1) _ (omega (arith, c.pieces-test.true, c.pieces.invariant.within)))

pub put_over-requires : goal.put_over-requires
put_over-requires c =
    let bytes = c.args.bytes.now in
    let list = c.args.list.now in
    let p : Piece = get_or list (c.pieces.left - 1) record { first = 0; last = 0; place = 0 } in
    rw c.bytes_in.ensures (piece_named c.pieces.set bytes list p c.pieces.invariant.down.all (Contains-get_or list (c.pieces.left - 1) _ (omega (arith, c.pieces-test.true, c.pieces.invariant.within))))

-- one piece more
pub pieces-preserved : goal.pieces-preserved
pieces-preserved c =
    let bytes = c.args.bytes.now in
    let list = c.args.list.now in
    let i = c.pieces.left - 1 in
    let d : Piece = record { first = 0; last = 0; place = 0 } in
    let p : Piece = get_or list i d in
    let inv = c.pieces.invariant in
    let next : c.pieces.left ≡ i + 1 = omega (arith, c.pieces-test.true) in
    let so_far = subst (λ (n : ℕ). IsPutDown c.pieces.set (pairs_at bytes list) (pairs_at bytes (drop n list))) next inv.down in
    record {
      within = omega (arith, inv.within);
      down = piece_put c.pieces.set c.put_over.new.self bytes list i d (omega (arith, c.pieces-test.true, inv.within)) so_far (rw c.bytes_in.ensures at c.put_over.ensures);
    }

pub returns : goal.returns
returns c = all_put c.pieces.set c.args.bytes.now c.args.list.now c.pieces.left (omega (arith, c.pieces-test.false)) c.pieces.invariant.down
