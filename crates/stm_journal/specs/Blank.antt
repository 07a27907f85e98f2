-- Bytes of which only the number is known.
use Rattle.std.specs.Prelude.{ℕ, List, replicate}

-- as many zeros
abbrev pub blank : ℕ → List ℕ
blank n = replicate n 0
