-- Bytes of a block that a device which lost power in the midst of it would take for an erase.
use Rattle.std.specs.Prelude.{ℕ, Bool, false, List, [], ◌∷◌, ◌==◌, ◌&&◌, ◌||◌, if◌then◌else◌}

-- the code of Erase Memory or Extended Erase Memory, and its complement
abbrev pub begins_erase : List ℕ → Bool
begins_erase (code ∷ check ∷ rest) =
    ((code == 0x43) && (check == 0xBC)) || ((code == 0x44) && (check == 0xBB))
begins_erase _ = false

-- One of them begins somewhere.
abbrev pub has_erase : List ℕ → Bool
has_erase [] = false
has_erase (byte ∷ rest) = begins_erase (byte ∷ rest) || has_erase rest

-- One of them begins behind a 7F, which connects a device that is fresh from reset.
abbrev pub has_false_erase : List ℕ → Bool
has_false_erase [] = false
has_false_erase (byte ∷ rest) = if byte == 0x7F then has_erase rest else has_false_erase rest
