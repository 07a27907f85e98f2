use Rattle.std.proofs.Common.{◌≡◌, inl, inr, ap, ap₂, ◌∙◌, refl, sym, subst, arith, length}
use Rattle.std.specs.Prelude.{IfSome, Some, slice_get}
use Rattle.std.proofs.lemmas.Bool.{cases_lt}
use Rattle.std.proofs.lemmas.Option.{slice_get_read}
use Rattle.stm_image.specs.Joined.{DifferIn}
use Rattle.stm_image.specs.Pairs.{Pairs, AddressesRise}
use Rattle.stm_image.specs.Pieces.{pairs_at}
use Rattle.stm_image.proofs.Alike.{differ_here, none_differ}
use Rattle.stm_image.proofs.Lying.{stands_within}
use Rattle.stm_image.proofs.Running.{stand_read}
use Rattle.stm_image.proofs.joining.unlike_before.Goals as goal

pub first_unlike-requires : goal.first_unlike-requires
first_unlike-requires c p held =
    let bytes = c.as_slice-bytes.result.now in
    let list = c.as_slice.result.now in
    stands_within 0 (length bytes) list p (stand_read c.runs-runs.result.now bytes list c.as_slice-bytes.ensures.value c.as_slice.ensures.value c.runs-runs.ensures.runs.stand) held

-- the two differ here
pub returns-in-Some : goal.returns-in-Some
returns-in-Some c =
    let bytes = c.as_slice-bytes.result.now in
    let list = c.as_slice.result.now in
    let one = c.index-images-first.result in
    let other = c.index-images-second.result in
    let image : pairs_at bytes list ≡ other = ap₂ pairs_at c.as_slice-bytes.ensures.value c.as_slice.ensures.value ∙ c.runs-runs.ensures.value in
    let rises : AddressesRise (pairs_at bytes list) = subst AddressesRise (c.runs-runs.ensures.value ∙ sym image) c.runs-runs.ensures.runs.image.rises in
    record {
      one = one;
      other = other;
      earlier = c.loop-first-test.true;
      is_one = slice_get_read c.args.images.now _ c.loop-first.first one refl (omega (arith, c.loop-first-test.true, c.requires)) c.index-images-first.is;
      is_other = slice_get_read c.args.images.now _ c.args.second other refl c.requires c.index-images-second.is;
      differ = subst (λ (i : Pairs). DifferIn one i c.in-Some.address) image (differ_here one bytes list c.in-Some.address rises c.in-Some.ensures);
    }

-- one more that it doesn't differ from
pub loop-first-preserved : goal.loop-first-preserved
loop-first-preserved c k address lt d = elim (cases_lt k c.loop-first.first) [
  | inl early ↦ c.loop-first.invariant k address early d
  | inr late ↦
      let bytes = c.as_slice-bytes.result.now in
      let list = c.as_slice.result.now in
      let one = c.index-images-first.result in
      let other = c.index-images-second.result in
      let here : k ≡ c.loop-first.first = omega arith in
      let image : pairs_at bytes list ≡ other = ap₂ pairs_at c.as_slice-bytes.ensures.value c.as_slice.ensures.value ∙ c.runs-runs.ensures.value in
      let is_one = slice_get_read c.args.images.now _ c.loop-first.first one refl (omega (arith, c.loop-first-test.true, c.requires)) c.index-images-first.is in
      let is_other = slice_get_read c.args.images.now _ c.args.second other refl c.requires c.index-images-second.is in
      let at_one : Some d.one ≡ Some one = sym d.is_one ∙ ap (slice_get c.args.images.now) here ∙ is_one in
      let at_other : Some d.other ≡ Some (pairs_at bytes list) = sym d.is_other ∙ is_other ∙ ap Some (sym image) in
      let same_one : d.one ≡ one = cc in
      let same_other : d.other ≡ pairs_at bytes list = cc in
      none_differ one bytes list address c.in_default.ensures (subst (λ (i : Pairs). DifferIn i (pairs_at bytes list) address) same_one (subst (λ (i : Pairs). DifferIn d.one i address) same_other d.differ))
]

pub returns : goal.returns
returns c =
    let other = c.index-images-second.result in
    let is_other = slice_get_read c.args.images.now _ c.args.second other refl c.requires c.index-images-second.is in
    record {
      rises = subst (λ o. IfSome o AddressesRise) (sym is_other) (subst AddressesRise c.runs-runs.ensures.value c.runs-runs.ensures.runs.image.rises);
      alike = λ k address d. c.loop-first.invariant k address (omega (arith, d.earlier, c.loop-first-test.false)) d;
    }
