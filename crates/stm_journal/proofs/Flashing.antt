-- The flashes before the segments, by the segments' numbers.
use Rattle.std.proofs.Common.{◌≡◌, ℕ, zero, suc, ◌+◌, ◌-◌, ◌<◌, List, [], ◌∷◌, length, take, fold, slice_get, Some, refl, ◌∙◌, ap, arith}
use Rattle.stm_wire.proofs.Names.{ChipData}
use Rattle.stm_journal.proofs.Names.{flashes_before_segments, FlashesAreThose, SegmentData, with_kept_pages}

flash_at : (chip : ChipData) (stack : List SegmentData) (flash : List ℕ) (i : ℕ) → i < length stack
    → slice_get (flashes_before_segments chip stack flash) i ≡ Some (fold (λ f segment. with_kept_pages chip segment f) flash (take (suc i) stack))
flash_at chip [] flash i lt = absurd (omega (arith, lt))
flash_at chip (segment ∷ below) flash zero lt = refl
flash_at chip (segment ∷ below) flash (suc i) lt = flash_at chip below (with_kept_pages chip segment flash) i (omega (arith, lt))

pub flashes_are_those : FlashesAreThose
flashes_are_those chip stack flash k some within =
    let e : suc (length stack - k) ≡ length stack + 1 - k = omega (arith, some, within) in
    flash_at chip stack flash (length stack - k) (omega (arith, some, within))
    ∙ ap (λ (n : ℕ). Some (fold (λ f segment. with_kept_pages chip segment f) flash (take n stack))) e
