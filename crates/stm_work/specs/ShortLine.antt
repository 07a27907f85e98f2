-- The line of JSON that is printed where there is no memory for more.
use Rattle.std.specs.Prelude.{ℕ, List, ◌++◌, codes}

-- a line of JSON that names what was done, or a fault, and says no more
abbrev pub short_line : List ℕ → List ℕ → List ℕ
short_line member name =
    codes "{\"" ++ member ++ codes "\":\"" ++ name ++ codes "\"}\n"
