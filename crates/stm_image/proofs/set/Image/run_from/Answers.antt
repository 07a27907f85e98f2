use Rattle.std.proofs.Common.{◌≡◌, ◌<◌, ◌≤◌, ◌+◌, ◌-◌, ℕ, List, length, drop, get_or, sym, ap, ap₂, ◌∙◌, subst, arith}
use Rattle.std.proofs.lemmas.List.{get_or_default}
use Rattle.stm_image.specs.Pairs.{Pairs}
use Rattle.stm_image.specs.Pieces.{pairs_at, piece_bytes, piece_size}
use Rattle.stm_image.specs.Runs.{IsRunFrom}
use Rattle.stm_image.specs.declared.pieces.Piece.{Piece}
use Rattle.stm_image.proofs.Lying.{length-bytes_at}
use Rattle.stm_image.proofs.Running.{lasts_rise, none_from, run_at, stand_read, within_read}
use Rattle.stm_image.proofs.set.Image.run_from.Goals as goal

pub first_ending_from-place-requires : goal.first_ending_from-place-requires
first_ending_from-place-requires c =
    let runs = c.self.inside.runs in
    rw c.as_slice-list.ensures.value (lasts_rise 0 (length runs.bytes.items) 0 runs.list.items c.self.invariant.stand c.self.invariant.apart)

pub bytes_in-bytes-requires : goal.bytes_in-bytes-requires
bytes_in-bytes-requires c =
    let bound = c.first_ending_from-place.ensures.within in
    let other = c.if-place-list.false in
    let lt : c.first_ending_from-place.result < length c.as_slice-list.result.now = omega (arith, bound, other) in
    within_read c.self.inside.runs c.as_slice.result.now c.as_slice-list.result.now c.first_ending_from-place.result _ c.as_slice.ensures.value c.as_slice-list.ensures.value c.self.invariant.stand lt

pub split_at-requires : goal.split_at-requires
split_at-requires c =
    let list = c.as_slice-list.result.now in
    let place = c.first_ending_from-place.result in
    let found = c.first_ending_from-place.ensures in
    let bound = found.within in
    let other = c.if-place-list.false in
    let lt : place < length list = omega (arith, bound, other) in
    let d : Piece = record { first = 0; last = 0; place = 0 } in
    let p = get_or list place d in
    let within = within_read c.self.inside.runs c.as_slice.result.now list place d c.as_slice.ensures.value c.as_slice-list.ensures.value c.self.invariant.stand lt in
    let order = within.order in
    let long : length c.bytes_in-bytes.result.now ≡ piece_size p = ap (λ (b : List ℕ). length b) c.bytes_in-bytes.ensures ∙ length-bytes_at c.as_slice.result.now p within.ends in
    let high = found.here place d (omega arith) lt in
    let skip : c.saturating_sub-skip.result ≡ c.args.address - p.first = c.saturating_sub-skip.ensures in
    omega arith

pub overflow_add-result : goal.overflow_add-result
overflow_add-result c =
    let list = c.as_slice-list.result.now in
    let place = c.first_ending_from-place.result in
    let found = c.first_ending_from-place.ensures in
    let bound = found.within in
    let other = c.if-place-list.false in
    let lt : place < length list = omega (arith, bound, other) in
    let d : Piece = record { first = 0; last = 0; place = 0 } in
    let p = get_or list place d in
    let within = within_read c.self.inside.runs c.as_slice.result.now list place d c.as_slice.ensures.value c.as_slice-list.ensures.value c.self.invariant.stand lt in
    let order = within.order in
    let fits = within.fits in
    let high = found.here place d (omega arith) lt in
    let skip : c.saturating_sub-skip.result ≡ c.args.address - p.first = c.saturating_sub-skip.ensures in
    omega arith

pub returns : goal.returns
returns c =
    let runs = c.self.inside.runs in
    let bytes = c.as_slice.result.now in
    let list = c.as_slice-list.result.now in
    let place = c.first_ending_from-place.result in
    let found = c.first_ending_from-place.ensures in
    let bound = found.within in
    let other = c.if-place-list.false in
    let lt : place < length list = omega (arith, bound, other) in
    let d : Piece = record { first = 0; last = 0; place = 0 } in
    let p = get_or list place d in
    let stand = stand_read runs bytes list c.as_slice.ensures.value c.as_slice-list.ensures.value c.self.invariant.stand in
    let run = run_at bytes c.args.address list place p stand found.before lt (get_or_default list place d p lt) (found.here place d (omega arith) lt) in
    let skip = c.saturating_sub-skip.result in
    let rest = c.split_at.result.1.now in
    let all : rest ≡ drop (c.args.address - p.first) (piece_bytes bytes p) = c.split_at.ensures.back ∙ ap₂ (λ k b. drop k b) c.saturating_sub-skip.ensures c.bytes_in-bytes.ensures in
    let set : pairs_at bytes list ≡ c.args.self.now = ap₂ pairs_at c.as_slice.ensures.value c.as_slice-list.ensures.value ∙ c.self.view_is in
    let A : Pairs → Type 0 = λ ps. IsRunFrom ps c.args.address (p.first + skip) rest in
    let B : List ℕ → Type 0 = λ b. IsRunFrom (pairs_at bytes list) c.args.address (p.first + skip) b in
    let S : ℕ → Type 0 = λ k. IsRunFrom (pairs_at bytes list) c.args.address (p.first + k) (drop (c.args.address - p.first) (piece_bytes bytes p)) in
    subst A set (subst B (sym all) (subst S (sym c.saturating_sub-skip.ensures) run))

pub returns-then-place-list : goal.returns-then-place-list
returns-then-place-list c =
    let runs = c.self.inside.runs in
    let place = c.first_ending_from-place.result in
    let same = ap (λ (l : List Piece). length l) c.as_slice-list.ensures.value in
    let all : length runs.list.items ≤ place = omega (arith, same, c.if-place-list.true) in
    rw c.self.view_is at (none_from runs.bytes.items (length runs.bytes.items) c.args.address runs.list.items place c.self.invariant.stand (rw c.as_slice-list.ensures.value at c.first_ending_from-place.ensures.before) all)
