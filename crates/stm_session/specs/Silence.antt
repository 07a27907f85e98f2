-- A line that says that nothing answered a greeting, so that another one may come. Like a greeting it
-- ends with `!`, and counts as nothing.
use Rattle.std.specs.Prelude.{ℕ, List, [], ◌∷◌, ◌++◌, codes}

abbrev pub silent_line : List ℕ
silent_line = codes "silent!" ++ 10 ∷ []
