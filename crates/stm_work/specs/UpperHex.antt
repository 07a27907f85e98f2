-- A number in base 16.
use Rattle.std.specs.Prelude.{ℕ, ◌/◌, ◌%◌, zero, suc, true, List, [], ◌∷◌, ◌++◌}
use Rattle.std.specs.Fmt.{digit_glyph}

-- its last digits, so many, in upper case; zeros stand in front where it has fewer
unfoldable pub upper_hex : ℕ → ℕ → List ℕ
upper_hex zero n = []
upper_hex (suc k) n = upper_hex k (n / 16) ++ digit_glyph true (n % 16) ∷ []
