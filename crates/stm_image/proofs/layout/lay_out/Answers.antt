use Rattle.std.proofs.Common.{◌≡◌, inr, ℕ, ◌+◌, ◌-◌, ◌<◌, ◌≤◌, ◌++◌, List, length, drop, get_or, ap, ap₂, ◌∙◌, rules, arith}
use Rattle.std.proofs.lemmas.List.{get_or_default}
use Rattle.std.proofs.lemmas.List.Elements.{Contains-get_or}
use Rattle.stm_image.specs.Pairs.{raw_pairs}
use Rattle.stm_image.specs.Pieces.{piece_size, piece_bytes, pairs_in}
use Rattle.stm_image.specs.declared.pieces.Piece.{Piece}
use Rattle.stm_image.proofs.Lying.{length-bytes_at}
use Rattle.stm_image.proofs.Overlaps.{next_laid, none_laid, all_laid}
use Rattle.stm_image.proofs.layout.lay_out.Goals as goal
use Rattle.stm_image.proofs.layout.lay_out.Goals.{then-skip-data+in_ok-add, else-skip-data}

pub bytes_in-data-requires : goal.bytes_in-data-requires
bytes_in-data-requires c = c.requires.within _ (Contains-get_or c.args.list.now c.loop-piece.piece-index _ c.loop-piece-test.true)

pub overflow_cast-skip : goal.overflow_cast-skip
overflow_cast-skip c =
    let p : Piece = get_or c.args.list.now c.loop-piece.piece-index record { first = 0; last = 0; place = 0 } in
    let within = c.requires.within p (Contains-get_or c.args.list.now c.loop-piece.piece-index _ c.loop-piece-test.true) in
    let fits = within.fits in
    let long = ap (λ (b : List ℕ). length b) c.bytes_in-data.ensures ∙ length-bytes_at c.args.bytes.now p within.ends in
    omega (arith, long, c.if-skip-data.true)

pub overflow_add-piece : goal.overflow_add-piece
overflow_add-piece c =
    let p : Piece = get_or c.args.list.now c.loop-piece.piece-index record { first = 0; last = 0; place = 0 } in
    let within = c.requires.within p (Contains-get_or c.args.list.now c.loop-piece.piece-index _ c.loop-piece-test.true) in
    let fits = within.fits in
    let order = within.order in
    let long = ap (λ (b : List ℕ). length b) c.bytes_in-data.ensures ∙ length-bytes_at c.args.bytes.now p within.ends in
    omega (arith, long, c.if-skip-data.true)

pub add-requires-clause-fits : goal.add-requires-clause-fits
add-requires-clause-fits c =
    let p : Piece = get_or c.args.list.now c.loop-piece.piece-index record { first = 0; last = 0; place = 0 } in
    let within = c.requires.within p (Contains-get_or c.args.list.now c.loop-piece.piece-index _ c.loop-piece-test.true) in
    let fits = within.fits in
    let order = within.order in
    let long = ap (λ (b : List ℕ). length b) c.bytes_in-data.ensures ∙ length-bytes_at c.args.bytes.now p within.ends in
    omega (arith, long, c.if-skip-data.true, c.split_at.ensures.back_len)

-- one piece more is laid out
pub loop-piece-preserved : goal.loop-piece-preserved
loop-piece-preserved c =
    let bytes = c.args.bytes.now in
    let list = c.args.list.now in
    let i = c.loop-piece.piece-index in
    let d : Piece = record { first = 0; last = 0; place = 0 } in
    let p : Piece = get_or list i d in
    let lt = c.loop-piece-test.true in
    let inv = c.loop-piece.invariant in
    let within = c.requires.within p (Contains-get_or list i d lt) in
    let order = within.order in
    let fits = within.fits in
    let long : length c.bytes_in-data.result.now ≡ piece_size p = ap (λ (b : List ℕ). length b) c.bytes_in-data.ensures ∙ length-bytes_at bytes p within.ends in
    let low = inv.order i d (omega arith) lt in
    let from : c.from.result ≡ p.first = first_of (omega (arith, c.from.ensures), search (rules, c.from.ensures)) in
    let skip : c.saturating_sub-skip.result ≡ c.loop-piece.next - p.first = c.saturating_sub-skip.ensures ∙ ap (λ n. c.loop-piece.next - n) from in
    let later = λ (k : ℕ) (e : Piece) (le : i + 1 ≤ k) (in_list : k < length list).
    let up = c.requires.order i k e (omega arith) in_list in
    let same : (get_or list i e).first ≡ p.first = ap (λ (q : Piece). q.first) (get_or_default list i e d lt) in
    let r : p.first ≤ (get_or list k e).first = omega arith in r in
    elim c.if-skip-data.branch [
      | then-skip-data+in_ok-add w ↦
          let adds = w.in_ok-add.ensures.ok in
          let next : c.if-skip-data.next ≡ p.last + 1 = w.next-is ∙ first_of (omega (arith, w.from-next.ensures), search (rules, w.from-next.ensures)) in
          let short = w.if-skip-data.true in
          let start : p.first + c.saturating_sub-skip.result ≡ p.first + (c.loop-piece.next - p.first) = omega (arith, skip) in
          let rest : w.split_at.result.1.now ≡ drop (c.loop-piece.next - p.first) (piece_bytes bytes p) = w.split_at.ensures.back ∙ ap₂ (λ k b. drop k b) skip c.bytes_in-data.ensures in
          let pairs : pairs_in c.if-skip-data.laid ≡ pairs_in c.loop-piece.laid ++ raw_pairs (p.first + (c.loop-piece.next - p.first)) (drop (c.loop-piece.next - p.first) (piece_bytes bytes p)) =
          ap pairs_in w.laid-is ∙ adds.pairs ∙ ap₂ (λ s b. pairs_in c.loop-piece.laid ++ raw_pairs s b) start rest in
          rw (w.laid-is) (record {
            stand = adds.stand;
            apart = adds.apart inv.apart (omega (arith, inv.next, skip));
            next = omega (arith, adds.next (omega (arith, w.split_at.ensures.back_len, short)), w.split_at.ensures.back_len, next, long, skip, short);
            low = p.first;
            order = later;
            out = rw (← w.laid-is) (next_laid bytes list i d (pairs_in c.loop-piece.laid) (pairs_in c.if-skip-data.laid) inv.low c.loop-piece.next c.if-skip-data.next lt within inv.out low (omega (arith, next)) (omega (arith, next, skip, short, long)) (inr next) pairs);
          })
      | else-skip-data w ↦
          let none = w.if-skip-data.false in
          rw (w.laid-is, w.next-is) (record {
            stand = inv.stand;
            apart = inv.apart;
            next = inv.next;
            low = p.first;
            order = later;
            out = none_laid bytes list i d (pairs_in c.loop-piece.laid) inv.low c.loop-piece.next lt within inv.out low (omega (arith, skip, none, long));
          })
    ]

pub returns-clause-among : goal.returns-clause-among
returns-clause-among c =
    let inv = c.loop-piece.invariant in
    let out = all_laid c.args.bytes.now c.args.list.now c.loop-piece.piece-index (pairs_in c.loop-piece.laid) inv.low c.loop-piece.next c.loop-piece-test.false inv.out in
    rw c.from_runs.ensures out.among

pub returns-clause-covers : goal.returns-clause-covers
returns-clause-covers c =
    let inv = c.loop-piece.invariant in
    let out = all_laid c.args.bytes.now c.args.list.now c.loop-piece.piece-index (pairs_in c.loop-piece.laid) inv.low c.loop-piece.next c.loop-piece-test.false inv.out in
    rw c.from_runs.ensures out.covers
