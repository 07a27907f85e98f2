use Rattle.std.proofs.Common.{◌≡◌, ◌+◌, ◌<◌, ◌++◌, List, ℕ, suc, length, drop, get_or, sym, ap, ap₂, ◌∙◌, arith}
use Rattle.std.proofs.lemmas.List.{drop_all, drop_more}
use Rattle.stm_image.specs.Canon.{canon, lines, parts_of, runs_of}
use Rattle.stm_image.specs.Pairs.{raw_pairs}
use Rattle.stm_image.specs.Pieces.{pairs_at, piece_size}
use Rattle.stm_image.specs.Parts.{IsBehind}
use Rattle.stm_image.specs.declared.pieces.Piece.{Piece}
use Rattle.stm_image.proofs.Lying.{length-bytes_at}
use Rattle.stm_image.proofs.Running.{behind_piece, stand_read, within_read}
use Rattle.stm_image.proofs.writer.write_hex.Goals as goal

pub loop-run-init : goal.loop-run-init
unfolding canon
loop-run-init c =
    ap₂ (λ text pairs. text ++ lines 0 (parts_of (runs_of pairs))) c.in_ok-text.ensures.items (ap₂ pairs_at c.as_slice-bytes.ensures.value c.as_slice-list.ensures.value ∙ c.runs-runs.ensures.value)

pub bytes_in-requires : goal.bytes_in-requires
bytes_in-requires c =
    within_read c.runs-runs.result.now c.as_slice-bytes.result.now c.as_slice-list.result.now c.loop-run.run-index _ c.as_slice-bytes.ensures.value c.as_slice-list.ensures.value c.runs-runs.ensures.runs.stand c.loop-run-test.true

pub put_run-requires : goal.put_run-requires
put_run-requires c =
    let bytes = c.as_slice-bytes.result.now in
    let list = c.as_slice-list.result.now in
    let p : Piece = get_or list c.loop-run.run-index record { first = 0; last = 0; place = 0 } in
    let within = within_read c.runs-runs.result.now bytes list c.loop-run.run-index record { first = 0; last = 0; place = 0 } c.as_slice-bytes.ensures.value c.as_slice-list.ensures.value c.runs-runs.ensures.runs.stand c.loop-run-test.true in
    let fits = within.fits in
    let order = within.order in
    let long : length c.bytes_in.result.now ≡ piece_size p = ap (λ (b : List ℕ). length b) c.bytes_in.ensures ∙ length-bytes_at bytes p within.ends in
    omega arith

-- the lines of one run
pub loop-run-preserved : goal.loop-run-preserved
loop-run-preserved c =
    let runs = c.runs-runs.result.now in
    let bytes = c.as_slice-bytes.result.now in
    let list = c.as_slice-list.result.now in
    let i = c.loop-run.run-index in
    let d : Piece = record { first = 0; last = 0; place = 0 } in
    let p : Piece = get_or list i d in
    let lt = c.loop-run-test.true in
    let text = c.loop-run.text.items in
    let later = pairs_at bytes (drop (i + 1) list) in
    let own = c.bytes_in.result.now in
    let stand = stand_read runs bytes list c.as_slice-bytes.ensures.value c.as_slice-list.ensures.value c.runs-runs.ensures.runs.stand in
    let apart = rw (← c.as_slice-list.ensures.value) at c.runs-runs.ensures.runs.apart in
    let within = within_read runs bytes list i d c.as_slice-bytes.ensures.value c.as_slice-list.ensures.value c.runs-runs.ensures.runs.stand lt in
    let order = within.order in
    let long : length own ≡ piece_size p = ap (λ (b : List ℕ). length b) c.bytes_in.ensures ∙ length-bytes_at bytes p within.ends in
    let next : i + 1 ≡ suc i = omega arith in
    let behind : IsBehind (p.first + length own) later = λ q held.
    let up = behind_piece bytes 0 (length bytes) 0 list i d q stand apart lt (rw next at held) in
    let r : p.first + length own < q.0 = omega arith in r in
    let whole : pairs_at bytes (drop i list) ≡ raw_pairs p.first own ++ later =
    ap (pairs_at bytes) (drop_more list i d lt) ∙ ap (λ b. raw_pairs p.first b ++ later) (sym c.bytes_in.ensures) in
    c.in_ok-upper.ensures later behind ∙ ap (λ ps. text ++ lines c.loop-run.upper (parts_of (runs_of ps))) (sym whole) ∙ c.loop-run.invariant

-- none is left
pub returns : goal.returns
unfolding lines
returns c =
    let bytes = c.as_slice-bytes.result.now in
    let list = c.as_slice-list.result.now in
    let none = drop_all c.loop-run.run-index list c.loop-run-test.false in
    c.in_ok-put_line.ensures ∙ ap (λ l. c.loop-run.text.items ++ lines c.loop-run.upper (parts_of (runs_of (pairs_at bytes l)))) (sym none) ∙ c.loop-run.invariant
