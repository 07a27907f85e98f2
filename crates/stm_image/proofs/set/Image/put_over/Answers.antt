use Rattle.std.proofs.Common.{◌≡◌, ◌<◌, ◌≤◌, ◌+◌, ◌-◌, ℕ, List, length, sym, ap, ◌∙◌, subst, arith}
use Rattle.std.specs.List.{AllWithin}
use Rattle.std.proofs.lemmas.Bool.Decides.{nat_tests}
use Rattle.std.proofs.lemmas.List.{with_items_is}
use Rattle.stm_image.specs.Clash.{Names}
use Rattle.stm_image.specs.Pairs.{Pairs, IsImage}
use Rattle.stm_image.specs.Pieces.{Stand, pairs_at}
use Rattle.stm_image.specs.declared.pieces.Piece.{Piece}
use Rattle.stm_image.proofs.Lying.{is_image}
use Rattle.stm_image.proofs.Putting.{IsHolder, reaches, found_at, puts_over}
use Rattle.stm_image.proofs.Running.{lasts_rise}
use Rattle.stm_image.proofs.set.Image.put_over.Goals as goal
use Rattle.stm_image.proofs.set.Image.put_over.Goals.{After-index-piece}

-- the piece at a place is the first to end at an address or after it
abbrev Low : List Piece → ℕ → ℕ → Type 0
Low list address place = AllWithin (λ (p : Piece). p.last < address) list 0 place

abbrev High : List Piece → ℕ → ℕ → Type 0
High list address place = AllWithin (λ (p : Piece). address ≤ p.last) list place (length list)

pub first_ending_from-place-requires : goal.first_ending_from-place-requires
first_ending_from-place-requires c =
    let runs = c.self.inside.runs in
    rw c.as_slice.ensures.value (lasts_rise 0 (length runs.bytes.items) 0 runs.list.items c.self.invariant.stand c.self.invariant.apart)

pub index-piece-requires : goal.index-piece-requires
index-piece-requires c =
    let runs = c.self.inside.runs in
    let place = c.first_ending_from-place.result in
    let low = subst (λ (l : List Piece). Low l c.args.address place) c.as_slice.ensures.value c.first_ending_from-place.ensures.before in
    let some : 0 < length c.args.bytes.now = grind (arith, nat_tests) in
    let lt = reaches runs.bytes.items runs.list.items place c.args.address (length c.args.bytes.now) c.self.invariant.stand low (rw c.self.view_is c.requires) some in
    omega (arith, lt, runs.list.ok.0)

-- The piece that was found, in which the bytes lie.
module _ (c : goal.After-index-piece) where
  abbrev piece : Piece
  piece = c.index-piece.result.now

  abbrev list : List Piece
  list = c.self.inside.runs.list.items

  low : Low list c.args.address c.first_ending_from-place.result
  low =
      subst (λ (l : List Piece). Low l c.args.address c.first_ending_from-place.result)
      c.as_slice.ensures.value c.first_ending_from-place.ensures.before

  high : High list c.args.address c.first_ending_from-place.result
  high =
      subst (λ (l : List Piece). High l c.args.address c.first_ending_from-place.result)
      c.as_slice.ensures.value c.first_ending_from-place.ensures.here

  named : Names (pairs_at c.self.inside.runs.bytes.items list)
      c.args.address (length c.args.bytes.now)
  named =
      let N : Pairs → Type 0 = λ ps. Names ps c.args.address (length c.args.bytes.now) in
      subst N (sym c.self.view_is) c.requires

  some : 0 < length c.args.bytes.now
  some = grind (arith, nat_tests)

  found : IsHolder c.self.inside.runs.bytes.items list
      c.first_ending_from-place.result piece c.args.address (length c.args.bytes.now)
  found =
      found_at c.self.inside.runs.bytes.items list c.first_ending_from-place.result piece
      c.self.invariant.stand c.self.invariant.apart c.args.address (length c.args.bytes.now)
      low high named some c.index-piece.ensures

pub overflow_sub-skip : goal.overflow_sub-skip
overflow_sub-skip c =
    let at = (goal.at.overflow_sub-skip c).After-index-piece in
    (found at).begins

pub overflow_add-skip : goal.overflow_add-skip
overflow_add-skip c =
    let at = (goal.at.overflow_add-skip c).After-index-piece in
    let within = (found at).ends in
    let begins = (found at).begins in
    let own = (found at).own.ends in
    let fits = c.self.inside.runs.bytes.ok in
    omega arith

pub put_at-requires : goal.put_at-requires
put_at-requires c =
    let at = (goal.at.put_at-requires c).After-index-piece in
    let within = (found at).ends in
    let begins = (found at).begins in
    let own = (found at).own.ends in
    omega (arith, c.as_mut_slice.ensures.len, c.self.inside.runs.bytes.ok.0)

pub invariant_of-self : goal.invariant_of-self
invariant_of-self c =
    let runs = c.self.inside.runs in
    let new = c.put_at.new.to in
    let long : length new ≡ length runs.bytes.items = c.put_at.ensures.same_length ∙ ap (λ (b : List ℕ). length b) c.as_mut_slice.ensures.value in
    let stand = subst (λ (n : ℕ). Stand 0 n runs.list.items) (sym long) c.self.invariant.stand in
    let is = with_items_is runs.bytes new (omega (arith, long, runs.bytes.ok.0)) in
    let image = is_image new (length new) runs.list.items stand c.self.invariant.apart (rw (c.as_slice-2.ensures.value ∙ is) at c.are_bytes.ensures) in
    record {
      stand = subst (λ (b : List ℕ). Stand 0 (length b) runs.list.items) (sym is) stand;
      apart = c.self.invariant.apart;
      image = subst (λ (b : List ℕ). IsImage (pairs_at b runs.list.items)) (sym is) image;
    }

pub returns : goal.returns
returns c =
    let runs = c.self.inside.runs in
    let at = (goal.at.returns c).After-index-piece in
    let piece = c.index-piece.result.now in
    let skip = piece.place + (c.args.address - piece.first) in
    let new = c.put_at.new.to in
    let over = puts_over runs.bytes.items runs.list.items c.first_ending_from-place.result piece
    c.self.invariant.stand c.self.invariant.apart (found at).lt (found at).is
    c.args.address c.args.bytes.now new (low at) (found at).high (named at) (some at)
    (rw c.as_mut_slice.ensures.value at c.put_at.ensures) in
    let long : length new ≡ length runs.bytes.items =
    c.put_at.ensures.same_length
    ∙ ap (λ (b : List ℕ). length b) c.as_mut_slice.ensures.value in
    let is = with_items_is runs.bytes new (omega (arith, long, runs.bytes.ok.0)) in
    rw is (rw c.self.view_is at over)
