-- The frames of a plan lie in blocks of their own.
use Rattle.std.proofs.Common.{◌≡◌, inl, inr, ℕ, zero, suc, ◌+◌, ◌*◌, ◌/◌, ◌%◌, ◌<◌, ◌≤◌, List, [], ◌∷◌, ◌++◌, length, drop, sym, subst, arith, length-take}
use Rattle.std.proofs.lemmas.List.{append-nil}
use Rattle.stm_chip.specs.declared.plan.Frame.{Frame}
use Rattle.stm_chip.specs.Plan.{AreFrames, IsFrameOfPlan, block_of, cut_length, frame_with, frames_of, used_length}
use Rattle.stm_chip.proofs.Programming.{frame_cases, used_length-le}

-- a frame in a page is one in a larger page, from an earlier place on
frame_in_larger : (from earlier size larger : ℕ) (frame : Frame) → earlier ≤ from → size ≤ larger → IsFrameOfPlan from size frame → IsFrameOfPlan earlier larger frame
frame_in_larger from earlier size larger frame before more is =
    record {
      aligned = is.aligned;
      after = omega arith;
      inside = omega arith;
      some = is.some;
      limit = is.limit;
      words = is.words;
    }

frames_in_larger : (from size larger : ℕ) (frames : List Frame) → size ≤ larger → AreFrames from size frames → AreFrames from larger frames
frames_in_larger from size larger [] more are = tt
frames_in_larger from size larger (frame ∷ frames) more are =
    (frame_in_larger from from size larger frame (omega arith) more are.0, frames_in_larger (frame.offset + 256) size larger frames more are.1)

-- one frame more, behind a page's others
frames_and_one : (from middle size : ℕ) (frames : List Frame) (frame : Frame) → from ≤ middle → AreFrames from middle frames → IsFrameOfPlan middle size frame → AreFrames from size (frames ++ frame ∷ [])
frames_and_one from middle size [] frame before are is = (frame_in_larger middle from size size frame before (omega arith) is, tt)
frames_and_one from middle size (first ∷ frames) frame before are is =
    let whole : middle ≤ size = omega (arith, is.after, is.inside) in (
      frame_in_larger from from middle size first (omega arith) whole are.0,
      frames_and_one (first.offset + 256) middle size frames frame are.0.inside are.1 is,
    )

-- the frame of a block with used bytes
block_frame : (erased n : ℕ) (page : List ℕ) → 0 < used_length erased (block_of page n) → IsFrameOfPlan (256 * n) (256 * suc n) (frame_with (256 * n) (cut_length erased (block_of page n)))
block_frame erased n page filled =
    let bound : used_length erased (block_of page n) ≤ 256 = omega (arith, used_length-le erased (block_of page n), length-take 256 (drop (256 * n) page)) in
    record {
      aligned = omega arith;
      after = omega arith;
      inside = omega arith;
      some = omega arith;
      limit = omega arith;
      words = omega arith;
    }

-- the frames of n blocks lie in them
frames_upto : (erased : ℕ) (page : List ℕ) (n : ℕ) → AreFrames 0 (256 * n) (frames_of erased page n)
unfolding frames_of
frames_upto erased page zero = tt
frames_upto erased page (suc n) =
    let block = block_of page n in
    let before = frames_of erased page n in
    let P : List Frame → Type 0 = λ more. AreFrames 0 (256 * suc n) (before ++ more) in
    elim (frame_cases (used_length erased block) (frame_with (256 * n) (cut_length erased block))) [
      | inl empty ↦
          let same : AreFrames 0 (256 * suc n) before = frames_in_larger 0 (256 * n) (256 * suc n) before (omega arith) (frames_upto erased page n) in
          subst P (sym empty.1) (subst (AreFrames 0 (256 * suc n)) (sym (append-nil before)) same)
      | inr filled ↦
          subst P (sym filled.1) (frames_and_one 0 (256 * n) (256 * suc n) before (frame_with (256 * n) (cut_length erased block)) (omega arith) (frames_upto erased page n) (block_frame erased n page filled.0))
    ]

-- the frames of all blocks lie in the page
pub frames_fit : (erased : ℕ) (page : List ℕ) → length page % 256 ≡ 0 → AreFrames 0 (length page) (frames_of erased page (length page / 256))
frames_fit erased page whole =
    let blocks : 256 * (length page / 256) ≡ length page = omega arith in
    let P : ℕ → Type 0 = λ size. AreFrames 0 size (frames_of erased page (length page / 256)) in
    subst P blocks (frames_upto erased page (length page / 256))
