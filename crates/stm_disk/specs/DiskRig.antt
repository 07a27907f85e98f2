-- A device on a line, and a journal in a file on a disk, as one Rig.
use Rattle.std.specs.Prelude.{◌≡◌, ℕ, ◌+◌, ◌≤◌, List, length, Bool, false, true, None}
use Rattle.stm_wire.specs.Device.{Device}
use Rattle.stm_wire.specs.Call.{Call, Put, Get, Append, Fetch}
use Rattle.stm_wire.specs.Rig.{RigState, LeftByPut, LeftByGet, LeftByAppend}
use Rattle.stm_journal.specs.Text.{text_of}
use Rattle.stm_journal.specs.Journals.{journal_of}
use Rattle.stm_disk.specs.GrowingFile.{FileState}
use Rattle.stm_disk.specs.Lines.{IsSynced, StaysOnDisk}
use Rattle.stm_disk.specs.declared.disk_rig.DiskRig.{DiskRig}

pub record DiskState : Type 1 where
  -- the line's own Rig, whose journal is what the file is to hold
  pub line : RigState
  pub file : FileState
  -- where the file ends
  pub size : ℕ
  -- an append has failed, and since then each call is refused
  pub has_failed : Bool
  -- how many puts and gets were refused since, and how often the journal failed
  pub refused : ℕ
  pub journal_failures : ℕ

-- the file follows the model, has just the journal's bytes, and all of them are on the disk
pub record HoldsJournal (journal : List ℕ) (size : ℕ) (file : FileState) : Type 0 where
  pub honest : file.is_honest
  pub seen : file.seen ≡ journal
  pub settled : IsSynced size file

-- The bytes are there, a crash from now on leaves them, and the file has what the journal has,
-- up to its new end.
pub record IsOnDisk (bytes : List ℕ) (size : ℕ) (journal : List ℕ) (old new : FileState)
    : Type 0 where
  pub stays : StaysOnDisk bytes old new
  pub holds : HoldsJournal journal (size + length bytes) new

-- the line follows its model, the file its own, and the two agree until an append has failed
pub record IsDisk (disk : DiskState) : Type 0 where
  pub line : disk.line.is_honest
  pub file : disk.has_failed ≡ false → HoldsJournal disk.line.journal disk.size disk.file

-- What it tells of itself is what the line tells, with other counts. It promises no room in the
-- record and doesn't count waits, since a call that is refused stands in neither.
abbrev pub rig_told : Type 0 → ℕ → ℕ → RigState → RigState
rig_told honest line_failures journal_failures rig =
    record rig {
      is_honest = honest;
      line_failures = line_failures;
      journal_failures = journal_failures;
      has_room = ⊥;
      long_gets = None;
    }

abbrev pub disk_rig_state : DiskState → RigState
disk_rig_state disk =
    rig_told (IsDisk disk) (disk.line.line_failures + disk.refused) disk.journal_failures disk.line

-- what contracts see of such a Rig, by what they see of its line and its file
abbrev pub disk_of : {L F : Type 0} → (L → RigState) → (F → FileState) → DiskRig L F → DiskState
disk_of line file rig = record {
  line = line rig.line;
  file = file rig.file;
  size = rig.size;
  has_failed = rig.has_failed;
  refused = rig.refused;
  journal_failures = rig.journal_failures;
}

-- the same whole lines, so that they come to the same journal
pub record SameLines (left journal : List ℕ) : Type 0 where
  pub lines : (text_of left).lines ≡ (text_of journal).lines
  pub state : journal_of left ≡ journal_of journal

-- A crash of the PC in this call is a stop in it: where a stop may leave a device, a crash leaves
-- the same one, and of the file the whole lines of a journal that a stop may leave with it.
abbrev pub CrashesAreStopsHere : (Device → List ℕ → Type 0) → RigState → RigState → FileState
    → FileState → Type 0
CrashesAreStopsHere P old new old_file new_file =
    (t : ℕ) (d : Device) (journal left : List ℕ) → t ≤ old.moment
    → P d journal → new.left_since t d journal
    → new_file.left_since old_file.moment left
    → (stopped : List ℕ) × new.left_since t d stopped × SameLines left stopped

-- what a stop in this call may leave
abbrev pub LeftByCall : Call → RigState → Device → List ℕ → Type 0
LeftByCall (Put byte) old = LeftByPut byte old
LeftByCall (Get answer) old = LeftByGet old
LeftByCall (Append bytes) old = LeftByAppend bytes old
LeftByCall Fetch old = LeftByGet old

-- a crash of the PC in this call is a stop in it, of an honest Rig of which no append has failed
abbrev pub CrashesAreStopsIn : Call → DiskState → DiskState → Type 0
CrashesAreStopsIn call old new =
    (disk_rig_state old).is_honest → old.has_failed ≡ false
    → CrashesAreStopsHere (LeftByCall call (disk_rig_state old)) (disk_rig_state old)
    (disk_rig_state new) old.file new.file

-- once an append has failed, line and file are left as they are
abbrev pub IdlesOnceFailed : {L F : Type 0} → DiskRig L F → DiskRig L F → Type 0
IdlesOnceFailed old new =
    old.has_failed ≡ true → (new.line ≡ old.line) × (new.file ≡ old.file)

-- what a stop may have left by then, it may have left later, as each call of a Rig says
pub record KeepsOn (old new : RigState) : Type 0 where
  pub later : old.moment ≤ new.moment
  pub keeps : (t : ℕ) (d : Device) (journal : List ℕ) → t ≤ old.moment
      → old.left_since t d journal → new.left_since t d journal

-- A session from first to last has a call in it, from old to new. A crash of the PC in that call is
-- a stop in the session: it leaves the same device, and a file that comes to the same journal.
abbrev pub CrashesInSessionsAreStops : {R F : Type 0} → (R → RigState) → (F → FileState) → Type 0
CrashesInSessionsAreStops {R} {F} view file_view =
    (call : Call) (first old new last : R) (file file2 : F)
    → KeepsOn (view first) (view old) → KeepsOn (view old) (view new)
    → KeepsOn (view new) (view last)
    → CrashesAreStopsHere (LeftByCall call (view old)) (view old) (view new)
    (file_view file) (file_view file2)
    → (d : Device) (journal left : List ℕ) → LeftByCall call (view old) d journal
    → (view new).left_since (view first).moment d journal
    → (file_view file2).left_since (file_view file).moment left
    → (stopped : List ℕ) × (view last).left_since (view first).moment d stopped
    × SameLines left stopped
