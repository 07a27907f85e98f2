-- Numbers in the decimal system, one behind the other.
use Rattle.std.specs.Prelude.{ℕ, List, [], ◌∷◌, ◌++◌, decimal}
use Rattle.std.specs.List.{flat_map}

-- numbers, each behind this text
abbrev pub more_text : List ℕ → List ℕ → List ℕ
more_text between = flat_map (λ n. between ++ decimal n)

-- numbers with this text between them
abbrev pub numbers_text : List ℕ → List ℕ → List ℕ
numbers_text between [] = []
numbers_text between (number ∷ more) = decimal number ++ more_text between more
