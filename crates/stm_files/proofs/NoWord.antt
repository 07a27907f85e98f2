-- Fewer than four bytes are no word.
use Rattle.std.proofs.Common.{◌≡◌, ◌<◌, ℕ, List, [], ◌∷◌, length, refl, arith}
use Rattle.stm_files.specs.Crc.{words_of}

pub none_left : (left : List ℕ) → length left < 4 → words_of left ≡ []
none_left [] few = refl
none_left (a ∷ []) few = refl
none_left (a ∷ b ∷ []) few = refl
none_left (a ∷ b ∷ c ∷ []) few = refl
none_left (a ∷ b ∷ c ∷ d ∷ rest) few = absurd (omega arith)
