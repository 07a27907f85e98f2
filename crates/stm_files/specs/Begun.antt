-- What void lines say of the beginning of segments, as it is told.
use Rattle.std.specs.Prelude.{ℕ, ◌==◌, if◌then◌else◌, List, [], ◌∷◌, ◌++◌, codes}
use Rattle.std.specs.List.{flat_map}
use Rattle.stm_files.specs.declared.begun.Note.{Note}

-- a line of segment k
unfoldable pub begun_line : ℕ → Note → List ℕ
begun_line k note =
    if note.segment == k then codes "  " ++ note.words.items ++ 10 ∷ [] else []

-- all of them
abbrev pub begun_text : List Note → ℕ → List ℕ
begun_text notes k = flat_map (begun_line k) notes
