use Rattle.std.proofs.Common.{◌≡◌, ◌+◌, ◌*◌, ◌<◌, ◌++◌, ◌∷◌, [], length, take, slice_set, ap, ◌∙◌, arith}
use Rattle.std.proofs.lemmas.List.{take_more_set}
use Rattle.hex.specs.Hex.{encode_upper}
use Rattle.stm_image.proofs.lines.fill_line.Goals as goal

pub returns : goal.returns
returns c =
    let old = c.args.line.now in
    let n = 2 * length c.args.bytes.now + 1 in
    let row = c.fill_digits.new.line in
    let at : 2 * length c.args.bytes.now + 2 ≡ n + 1 = omega arith in
    let some : 0 < length old = first_of (omega (arith, c.told-line), omega (arith, c.fits-line)) in
    let head : take 1 (slice_set old 0 58) ≡ 58 ∷ [] = take_more_set old 0 58 some in
    ap (λ k. take k (slice_set row n 10)) at ∙ take_more_set row n 10 (omega (arith, c.requires, c.fill_digits.array_long))
    ∙ ap (λ ds. ds ++ 10 ∷ []) (c.fill_digits.ensures ∙ ap (λ h. h ++ encode_upper c.args.bytes.now) head)
