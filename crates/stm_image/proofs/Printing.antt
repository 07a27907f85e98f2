-- A record's line, piece by piece.
use Rattle.std.proofs.Common.{◌≡◌, ℕ, ◌+◌, ◌-◌, ◌%◌, ◌++◌, List, [], ◌∷◌, ap, arith}
use Rattle.hex.specs.Hex.{encode_upper}
use Rattle.stm_image.specs.Canon.{line, record_bytes}

-- what the code adds is the record's line
pub line_is : (text digits bytes : List ℕ) (offset kind : ℕ) → digits ≡ encode_upper (record_bytes offset kind bytes) → text ++ (58 ∷ digits ++ 10 ∷ []) ≡ text ++ line offset kind bytes
unfolding line
line_is text digits bytes offset kind is = ap (λ ds. text ++ (58 ∷ ds ++ 10 ∷ [])) is

-- the check byte that the code adds
pub check_of : (header bytes total a b : ℕ) → a ≡ header % 256 → b ≡ bytes % 256 → total ≡ header + bytes → (256 - total % 256) % 256 ≡ (0 + (256 - (a + b) % 256)) % 256
check_of header bytes total a b ea eb et = omega arith
