-- What a whole HEX text means, or which fault stands in it.
use Rattle.std.specs.Prelude.{ℕ, ◌+◌, ◌*◌, ◌%◌, ◌^◌, ◌≡◌, ◌≢◌, ◌⊎◌, ◌==◌, if◌then◌else◌, List, []}
use Rattle.std.specs.Prelude.{◌∷◌, ◌++◌, length, Option, Some, None}
use Rattle.stm_image.specs.Pairs.{Pairs, Agree, IsSetOf}
use Rattle.stm_image.specs.Record.{Scan, Ended, Stray, Broken, Cut, Whole, scan, Flaw, BadSum}
use Rattle.stm_image.specs.Record.{BadKind, BadLength, flaw_of, kind_of, offset_of, data_of}
use Rattle.stm_image.specs.Record.{record_number}
use Rattle.stm_image.specs.declared.place.Form.{Form}
use Rattle.stm_image.specs.declared.place.Form.TheVariants.{Linear, Segment}
use Rattle.stm_image.specs.declared.faults.HexFault.{HexFault}
use Rattle.stm_image.specs.declared.faults.HexFault.TheVariants.{BadDigit, Short, Checksum, Kind}
use Rattle.stm_image.specs.declared.faults.HexFault.TheVariants.{Length, Conflict, NoEnd, NoColon}
use Rattle.stm_image.specs.declared.faults.HexFault.TheVariants.{Memory}

-- the form for the records after this one
abbrev pub form_after : Form → List ℕ → Form
form_after form r =
    if kind_of r == 4 then Linear (record_number r)
    else if kind_of r == 2 then Segment (record_number r) else form

-- the address of a data byte, at the offset of its record plus its place there
abbrev pub address_at : Form → ℕ → ℕ
address_at (Linear n) offset = (n * 65536 + offset) % 2 ^ 32
address_at (Segment n) offset = n * 16 + offset % 65536

-- bytes from an offset on
abbrev pub pairs_from : Form → ℕ → List ℕ → Pairs
pairs_from form offset [] = []
pairs_from form offset (b ∷ bytes) =
    (address_at form offset, b) ∷ pairs_from form (offset + 1) bytes

abbrev pub pairs_of : Form → List ℕ → Pairs
pairs_of form r = if kind_of r == 0 then pairs_from form (offset_of r) (data_of r) else []

-- the pairs of some records, in their order
abbrev pub placed : Form → List (List ℕ) → Pairs
placed form [] = []
placed form (r ∷ records) = pairs_of form r ++ placed (form_after form r) records

-- the form after some records
abbrev pub form_of : Form → List (List ℕ) → Form
form_of form [] = form
form_of form (r ∷ records) = form_of (form_after form r) records

-- the text is blanks and these records, each without a flaw and none an end
-- record, and then the rest
abbrev pub RecordsPrecede : List ℕ → List (List ℕ) → List ℕ → Type 0
RecordsPrecede text [] rest = text ≡ rest
RecordsPrecede text (r ∷ records) rest =
    (after : List ℕ) × (scan text ≡ Whole r after) × (flaw_of r ≡ None) × (kind_of r ≢ 1)
    × RecordsPrecede after records rest

-- all pairs of a text's records
abbrev pub all_pairs : List (List ℕ) → Pairs
all_pairs records = placed (Linear 0) records

-- the text means the set
pub record Means (text : List ℕ) (set : Pairs) : Type 0 where
  pub records : List (List ℕ)
  pub rest : List ℕ
  pub follows : RecordsPrecede text records rest
  pub last : List ℕ
  pub after : List ℕ
  pub stops : scan rest ≡ Whole last after
  pub flawless : flaw_of last ≡ None
  pub ends : kind_of last ≡ 1
  pub agree : Agree (all_pairs records)
  pub is_set : IsSetOf set (all_pairs records)

-- the fault for what stands at record n, but for a conflict
abbrev pub flaw_fault : ℕ → Option Flaw → Option HexFault
flaw_fault n (Some BadSum) = Some (Checksum n)
flaw_fault n (Some BadKind) = Some (Kind n)
flaw_fault n (Some BadLength) = Some (Length n)
flaw_fault n None = None

abbrev pub scan_fault : ℕ → Scan → Option HexFault
scan_fault n Ended = Some (NoEnd n)
scan_fault n Stray = Some (NoColon n)
scan_fault n Broken = Some (BadDigit n)
scan_fault n Cut = Some (Short n)
scan_fault n (Whole r after) = flaw_fault n (flaw_of r)

-- the record where the text goes on gives an address another byte
pub record Conflicts (records : List (List ℕ)) (rest : List ℕ) : Type 0 where
  pub next : List ℕ
  pub after : List ℕ
  pub stands : scan rest ≡ Whole next after
  pub flawless : flaw_of next ≡ None
  pub differs : ¬ Agree (all_pairs (records ++ next ∷ []))
  pub goes_on : kind_of next ≢ 1

-- which fault stands after these records
abbrev pub IsFault : List (List ℕ) → List ℕ → HexFault → Type 0
IsFault records rest (Conflict n) = (n ≡ length records + 1) × Conflicts records rest
IsFault records rest fault = scan_fault (length records + 1) (scan rest) ≡ Some fault

-- the fault stands in the text, at the record after `records`
pub record FaultStands (text : List ℕ) (fault : HexFault) : Type 0 where
  pub records : List (List ℕ)
  pub rest : List ℕ
  pub follows : RecordsPrecede text records rest
  pub agree : Agree (all_pairs records)
  pub is : IsFault records rest fault

-- the text means a set, or a fault stands in it
abbrev pub HasVerdict : List ℕ → Type 0
HasVerdict text = ((set : Pairs) × Means text set) ⊎ ((fault : HexFault) × FaultStands text fault)

-- memory was refused at the record after `records`, which agree: the
-- fault's number is that record's
pub record IsOutOfMemory (text : List ℕ) (fault : HexFault) : Type 0 where
  pub records : List (List ℕ)
  pub rest : List ℕ
  pub follows : RecordsPrecede text records rest
  pub agree : Agree (all_pairs records)
  pub is : fault ≡ Memory (length records + 1)
