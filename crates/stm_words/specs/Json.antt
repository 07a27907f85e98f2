-- Whether words ask for JSON.
use Rattle.std.specs.Prelude.{ℕ, Bool, List, [], ◌∷◌, bytes_eq, codes, if◌then◌else◌}
use Rattle.std.specs.List.{list_any}

-- the words before a `--`
abbrev pub before_dashes : List (List ℕ) → List (List ℕ)
before_dashes [] = []
before_dashes (word ∷ words) =
    if bytes_eq word (codes "--") then [] else word ∷ before_dashes words

-- `--json` is one of them
abbrev pub wants_json : List (List ℕ) → Bool
wants_json words = list_any (λ word. bytes_eq word (codes "--json")) (before_dashes words)
