-- How many bytes at the front of a run go into one record, and the lines of a run.
use Rattle.std.specs.Prelude.{ℕ, ◌≡◌, ◌<◌, ◌≤◌, ◌+◌, ◌%◌, ◌++◌, ◌⊎◌, length, List, Contains}
use Rattle.stm_image.specs.Pairs.{Pairs, raw_pairs}
use Rattle.stm_image.specs.Canon.{lines, parts_of, runs_of}

-- the record is full, the upper sixteen bits change behind it, or no bytes are left
abbrev pub EndsPart : ℕ → ℕ → ℕ → Type 0
EndsPart start left count = (count ≡ 16) ⊎ ((start + count) % 65536 ≡ 0) ⊎ (count ≡ left)

-- so many of the bytes that are left from an address on go into one record
pub record IsRecordPart (start left count : ℕ) : Type 0 where
  pub some : 0 < count
  pub within : count ≤ left
  pub short : count ≤ 16
  pub below : start % 65536 + count ≤ 65536
  pub ends : EndsPart start left count

-- the pairs lie behind an address
abbrev pub IsBehind : ℕ → Pairs → Type 0
IsBehind address pairs = (q : ℕ × ℕ) → Contains pairs q → address < q.0

-- the lines of a run were added to a text, and then those of pairs behind a
-- gap make it the text of all
abbrev pub IsTextWritten : List ℕ → ℕ → ℕ → List ℕ → List ℕ → ℕ → Type 0
IsTextWritten text upper start bytes written high =
    (later : Pairs) → IsBehind (start + length bytes) later
    → written ++ lines high (parts_of (runs_of later))
    ≡ text ++ lines upper (parts_of (runs_of (raw_pairs start bytes ++ later)))
