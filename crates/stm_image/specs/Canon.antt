-- The one canonical text of a set.
use Rattle.std.specs.Prelude.{ℕ, ◌+◌, ◌-◌, ◌/◌, ◌%◌, ◌==◌, ◌&&◌, not, if◌then◌else◌, List, [], ◌∷◌}
use Rattle.std.specs.Prelude.{◌++◌, length, take, drop, sum}
use Rattle.hex.specs.Hex.{encode_upper}
use Rattle.stm_image.specs.Pairs.{Pairs}

-- an address, and the bytes from it on
abbrev pub Run : Type 0
Run = ℕ × List ℕ

-- a pair before some runs: it begins the first of them where that goes on at the next address,
-- under the same upper sixteen bits
abbrev pub join : ℕ → ℕ → List Run → List Run
join a b [] = (a, b ∷ []) ∷ []
join a b ((start, bytes) ∷ runs) =
    if (start == a + 1) && not (start % 65536 == 0) then (a, b ∷ bytes) ∷ runs
    else (a, b ∷ []) ∷ (start, bytes) ∷ runs

abbrev pub runs_of : Pairs → List Run
runs_of [] = []
runs_of ((a, b) ∷ pairs) = join a b (runs_of pairs)

-- a run cut from its start into parts of 16 bytes, the last maybe shorter; `steps` has at least as
-- many elements as there are parts
unfoldable pub parts_of_run : List ℕ → ℕ → List ℕ → List Run
parts_of_run [] start bytes = []
parts_of_run (_ ∷ steps) start [] = []
parts_of_run (_ ∷ steps) start (b ∷ bytes) =
    (start, take 16 (b ∷ bytes)) ∷ parts_of_run steps (start + 16) (drop 16 (b ∷ bytes))

abbrev pub parts_of : List Run → List Run
parts_of [] = []
parts_of ((start, bytes) ∷ runs) = parts_of_run bytes start bytes ++ parts_of runs

-- bytes with the CHKSUM that makes their sum a multiple of 256
abbrev pub checked : List ℕ → List ℕ
checked bytes = bytes ++ ((256 - sum bytes % 256) % 256 ∷ [])

-- RECLEN, load offset, RECTYP, data and CHKSUM
abbrev pub record_bytes : ℕ → ℕ → List ℕ → List ℕ
record_bytes offset kind bytes = checked (length bytes ∷ offset / 256 ∷ offset % 256 ∷ kind ∷ bytes)

-- a record's line, ended by LF
unfoldable pub line : ℕ → ℕ → List ℕ → List ℕ
line offset kind bytes = 58 ∷ encode_upper (record_bytes offset kind bytes) ++ (10 ∷ [])

-- the line of an extended linear address record, where the upper sixteen bits change
abbrev pub upper_line : ℕ → ℕ → List ℕ
upper_line upper high = if high == upper then [] else line 0 4 (high / 256 ∷ high % 256 ∷ [])

-- the lines of the parts, where `upper` are the current upper sixteen bits, and
-- then that of the end record
unfoldable pub lines : ℕ → List Run → List ℕ
lines upper [] = line 0 1 []
lines upper ((start, bytes) ∷ parts) =
    upper_line upper (start / 65536) ++ line (start % 65536) 0 bytes ++ lines (start / 65536) parts

unfoldable pub canon : Pairs → List ℕ
canon pairs = lines 0 (parts_of (runs_of pairs))
