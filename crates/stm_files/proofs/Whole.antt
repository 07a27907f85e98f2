-- What was read with room for one byte more than came is all that there was.
use Rattle.std.proofs.Common.{◌≡◌, ℕ, ◌+◌, ◌≤◌, List, length, take, ◌∙◌, ap, arith, take_all}
use Rattle.std.proofs.lemmas.List.{length-take}

pub whole : (most : ℕ) (told bytes : List ℕ) → bytes ≡ take (most + 1) told → length bytes ≤ most → bytes ≡ told
whole most told bytes is le =
    let short = ap length is ∙ length-take (most + 1) told in
    is ∙ take_all (most + 1) told (omega (arith, short, le))
