-- What one pass over a text learns: its records' pairs, and what stops them.
use Rattle.std.specs.Prelude.{ℕ, ◌≡◌, ◌≢◌, ◌≤◌, ◌<◌, ◌+◌, ◌⊎◌, List, [], ◌∷◌, ◌++◌, length, take}
use Rattle.std.specs.Prelude.{Option, Some, None}
use Rattle.stm_image.specs.declared.step.Step.{Step}
use Rattle.stm_image.specs.declared.step.Step.TheVariants.{Stop, Goes}
use Rattle.stm_image.specs.Pairs.{Pairs}
use Rattle.stm_image.specs.Record.{Whole, scan, flaw_of, kind_of}
use Rattle.stm_image.specs.Text.{RecordsPrecede, all_pairs, scan_fault}
use Rattle.stm_image.specs.declared.faults.HexFault.{HexFault}
use Rattle.stm_image.specs.declared.faults.HexFault.TheVariants.{Memory}

-- an end record stands where the text goes on
pub record EndsAt (rest : List ℕ) : Type 0 where
  pub last : List ℕ
  pub after : List ℕ
  pub stops : scan rest ≡ Whole last after
  pub flawless : flaw_of last ≡ None
  pub ends : kind_of last ≡ 1

-- what stands where record n may begin: an end record, or a fault
abbrev pub StopsAt : ℕ → List ℕ → Option HexFault → Type 0
StopsAt n rest None = EndsAt rest
StopsAt n rest (Some fault) = scan_fault n (scan rest) ≡ Some fault

-- what stops one pass at record n: what stands there, or a want of memory
abbrev pub PassStopsAt : ℕ → List ℕ → Option HexFault → Type 0
PassStopsAt n rest stop = StopsAt n rest stop ⊎ (stop ≡ Some (Memory n))

-- one pass over a text gave these pairs
pub record Reads (text : List ℕ) (pairs : Pairs) (stop : Option HexFault) : Type 0 where
  pub records : List (List ℕ)
  pub rest : List ℕ
  pub follows : RecordsPrecede text records rest
  pub pairs_are : pairs ≡ all_pairs records
  pub stops : PassStopsAt (length records + 1) rest stop

-- the records at the front of the text have so many bytes and more
pub record HasByte (text : List ℕ) (place : ℕ) : Type 0 where
  pub records : List (List ℕ)
  pub rest : List ℕ
  pub follows : RecordsPrecede text records rest
  pub within : place < length (all_pairs records)

-- record n has the byte at a place among those of all records
pub record IsByteOfRecord (text : List ℕ) (place n : ℕ) : Type 0 where
  pub records : List (List ℕ)
  pub rest : List ℕ
  pub follows : RecordsPrecede text records rest
  pub next : List ℕ
  pub after : List ℕ
  pub stands : scan rest ≡ Whole next after
  pub flawless : flaw_of next ≡ None
  pub goes_on : kind_of next ≢ 1
  pub before : length (all_pairs records) ≤ place
  pub within : place < length (all_pairs (records ++ next ∷ []))
  pub number : n ≡ length records + 1

-- what one step over a text says, where record n may begin: what stops there, or a good record, in
-- the buffer, and the text after it
abbrev pub IsStep : List ℕ → ℕ → Step → List ℕ → Type 0
IsStep text n (Stop stop) buffer = StopsAt n text stop
IsStep text n (Goes count rest) buffer =
    (scan text ≡ Whole (take count buffer) rest.now) × (flaw_of (take count buffer) ≡ None)
    × (kind_of (take count buffer) ≢ 1)
    × (5 ≤ count) × (count ≤ 260) × (length rest.now < length text)
