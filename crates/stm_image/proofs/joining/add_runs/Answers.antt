use Rattle.std.proofs.Common.{◌≡◌, ℕ, ◌+◌, ◌++◌, List, ap, ap₂, ◌∙◌, sym, append_assoc, arith, get_or, length, take}
use Rattle.std.proofs.lemmas.List.{take_more}
use Rattle.std.proofs.lemmas.List.Elements.{Contains-get_or}
use Rattle.stm_image.specs.Pieces.{pairs_at, pairs_in, pairs_of_piece, piece_bytes}
use Rattle.stm_image.specs.Pairs.{Pairs, raw_pairs}
use Rattle.stm_image.specs.declared.pieces.Piece.{Piece}
use Rattle.stm_image.proofs.Lying.{length-bytes_at, stands_within}
use Rattle.stm_image.proofs.Running.{stand_read}
use Rattle.stm_image.proofs.Standing.{pairs_at-snoc}
use Rattle.stm_image.proofs.joining.add_runs.Goals as goal

pub bytes_in-requires : goal.bytes_in-requires
bytes_in-requires c =
    let bytes = c.as_slice-bytes.result.now in
    let list = c.as_slice-run-items.result.now in
    stands_within 0 (length bytes) list _ (stand_read c.runs-runs.result.now bytes list c.as_slice-bytes.ensures.value c.as_slice-run-items.ensures.value c.runs-runs.ensures.runs.stand) (Contains-get_or list c.loop-run.run-index _ c.loop-run-test.true)

pub add-requires-clause-fits : goal.add-requires-clause-fits
add-requires-clause-fits c =
    let bytes = c.as_slice-bytes.result.now in
    let list = c.as_slice-run-items.result.now in
    let p : Piece = get_or list c.loop-run.run-index record { first = 0; last = 0; place = 0 } in
    let stand = stand_read c.runs-runs.result.now bytes list c.as_slice-bytes.ensures.value c.as_slice-run-items.ensures.value c.runs-runs.ensures.runs.stand in
    let within = stands_within 0 (length bytes) list p stand (Contains-get_or list c.loop-run.run-index _ c.loop-run-test.true) in
    let long = length-bytes_at bytes p within.ends in
    let same : length c.bytes_in.result.now ≡ length (piece_bytes bytes p) = ap length c.bytes_in.ensures in
    let order = within.order in
    let fits = within.fits in
    omega arith

pub loop-run-preserved : goal.loop-run-preserved
loop-run-preserved c =
    let bytes = c.as_slice-bytes.result.now in
    let list = c.as_slice-run-items.result.now in
    let n = c.loop-run.run-index in
    let d : Piece = record { first = 0; last = 0; place = 0 } in
    let p = get_or list n d in
    let inv = c.loop-run.invariant in
    let added = c.in_ok-add.ensures.ok in
    let before = pairs_in c.args.pieces.now in
    let one : pairs_at bytes (take (n + 1) list) ≡ pairs_at bytes (take n list) ++ pairs_of_piece bytes p = ap (pairs_at bytes) (take_more list n d c.loop-run-test.true) ∙ pairs_at-snoc bytes (take n list) p in
    (added.stand, added.pairs ∙ ap₂ (λ (ps : Pairs) (bs : List ℕ). ps ++ raw_pairs p.first bs) inv.1 c.bytes_in.ensures ∙ append_assoc before (pairs_at bytes (take n list)) (pairs_of_piece bytes p) ∙ ap (λ (ps : Pairs). before ++ ps) (sym one))
