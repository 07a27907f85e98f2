-- A greeting: a void line that says that a byte 7F may have been sent since the line before it.
use Rattle.std.specs.Prelude.{ℕ, Bool, false, not, ◌&&◌, nat_lt, List, [], ◌∷◌, ◌++◌, length, fold}
use Rattle.std.specs.Prelude.{codes, bytes_eq}
use Rattle.stm_journal.specs.Text.{text_of}

-- what the line says; it ends with `!`, so it counts as nothing
abbrev pub greeting : List ℕ
greeting = codes "connect!"

-- the line with the LF that ends it
abbrev pub greeting_line : List ℕ
greeting_line = greeting ++ 10 ∷ []

-- the last of these lines is a greeting
abbrev pub ends_greeted : List (List ℕ) → Bool
ends_greeted lines = fold (λ last line. bytes_eq line greeting) false lines

-- the last whole line of a journal is a greeting; what stands behind the last LF doesn't count
abbrev pub is_greeted : List ℕ → Bool
is_greeted bytes = ends_greeted (text_of bytes).lines

-- a greeting may come: no torn tail stands, and the last whole line isn't one already
abbrev pub may_greet : List ℕ → Bool
may_greet bytes = not (nat_lt 0 (length (text_of bytes).tail)) && not (is_greeted bytes)
