-- The beginning of a file that is read byte by byte, to see whether it is a journal's.
use Rattle.std.specs.Prelude.{ℕ, ◌+◌, Bool, true, false, ◌&&◌, not, ◌==◌, nat_le}
use Rattle.std.specs.Prelude.{◌≡◌, if◌then◌else◌, List, fold, Option}
use Rattle.std.specs.Io.KnownBytes.{Consumes}
use Rattle.stm_files.specs.NoJournal.{is_filling, may_stand, version_at}
use Rattle.stm_files.specs.declared.beginning.Course.{Course}
use Rattle.stm_files.specs.declared.beginning.Course.TheVariants.{Header, Torn, Other}
use Rattle.stm_files.specs.declared.beginning.LineStart.{LineStart}
use Rattle.stm_files.specs.declared.beginning.Beginning.{Beginning}
use Rattle.stm_files.specs.declared.beginning.Beginning.TheVariants.{Void, Said}

abbrev pub goes_on : Course → Bool
goes_on Header = true
goes_on Torn = false
goes_on Other = false

-- where a byte comes that goes on as no header does
abbrev pub broken_by : Course → ℕ → Course
broken_by Header b = if is_filling b then Torn else Other
broken_by Torn b = if is_filling b then Torn else Other
broken_by Other b = Other

-- a byte more in the line
abbrev pub longer : LineStart → ℕ → LineStart
longer line b =
    if goes_on line.course && may_stand line.version line.at b
    then record {
      version = version_at line.version line.at b;
      at = line.at + 1;
      course = Header;
      is_marked = b == 33;
    }
    else record {
      version = line.version;
      at = line.at;
      course = broken_by line.course b;
      is_marked = b == 33;
    }

abbrev pub no_bytes : LineStart
no_bytes = record { version = 0; at = 0; course = Header; is_marked = false }

abbrev pub may_be_torn : LineStart → Bool
may_be_torn line = elim line.course as (λ _. Bool) [ Header ↦ true | Torn ↦ true | Other ↦ false ]

-- an LF behind a line
abbrev pub ended : Bool → LineStart → Beginning
ended are_torn line =
    if line.is_marked then Void (are_torn && may_be_torn line) no_bytes
    else Said (nat_le 11 line.at)

-- a byte more in the file
abbrev pub read_on : Beginning → ℕ → Beginning
read_on (Said has_word) b = Said has_word
read_on (Void are_torn line) b = if b == 10 then ended are_torn line else Void are_torn (longer line b)

-- what a file is that ends here
abbrev pub is_other_at_end : Beginning → Bool
is_other_at_end (Said has_word) = not has_word
is_other_at_end (Void are_torn line) = not (are_torn && may_be_torn line)

abbrev pub is_said : Beginning → Bool
is_said (Said has_word) = true
is_said (Void are_torn line) = false

-- nothing was read of a file
abbrev pub unread : Beginning
unread = Void true no_bytes

-- so many bytes were taken of what a reader had, and this is what they come to
abbrev pub ReadsTo : Option (List ℕ) → Option (List ℕ) → Beginning → Type 0
ReadsTo had left file = (taken : List ℕ) × Consumes had left taken × (file ≡ fold read_on unread taken)
