-- What a session refuses before it does anything to a device, in the order of its steps.
use Rattle.std.specs.Prelude.{◌≡◌, ◌⊎◌, ℕ, not, ◌&&◌, ◌==◌, Bool, false, nat_lt, min, if◌then◌else◌}
use Rattle.std.specs.Prelude.{List, [], ◌∷◌, ◌++◌, length, take, fold, Option, Some, None, option_map}
use Rattle.std.specs.Prelude.{Result, Ok, Err}
use Rattle.std.specs.List.{list_any, find, flat_map}
use Rattle.std.specs.Option.{option_map_or}
use Rattle.stm_wire.specs.Chip.{ChipData, page_count}
use Rattle.stm_wire.specs.Device.{Device}
use Rattle.stm_wire.specs.Rig.{RigState}
use Rattle.stm_wire.specs.Moments.{LeavesOnly}
use Rattle.stm_journal.specs.declared.header.JournalHeader.{JournalHeader}
use Rattle.stm_journal.specs.declared.kept.Kept.{Kept}
use Rattle.stm_journal.specs.Fits.{fits_chip}
use Rattle.stm_journal.specs.States.{StateData, SegmentData, segment_of, is_unfinished, names_other}
use Rattle.stm_journal.specs.States.{names_other_board}
use Rattle.stm_journal.specs.Journals.{JournalData, good, bad}
use Rattle.stm_session.specs.declared.fault.Fault.{Fault}
use Rattle.stm_session.specs.declared.fault.Fault.TheVariants.{Unfinished, UnknownChip, InSession}
use Rattle.stm_session.specs.declared.fault.Fault.TheVariants.{BadJournal, OtherBoard, OtherDevice}
use Rattle.stm_session.specs.Fault.{IsJournalOrMemory, IsOutsideFault}
use Rattle.stm_session.specs.Undoable.{has_companion}

-- refused where the test fails
abbrev pub refused_unless : Bool → Fault → Option Fault
refused_unless test fault = if test then None else Some fault

-- the first of these that is a refusal, if one is
abbrev pub first_refusal : List (Option Fault) → Option Fault
first_refusal [] = None
first_refusal (Some fault ∷ rest) = Some fault
first_refusal (None ∷ rest) = first_refusal rest

-- the chip with its first n pages, or with all where it hasn't more
abbrev pub first_of : ℕ → ChipData → ChipData
first_of n chip = record chip { sizes = take n chip.sizes }

-- the chip of a table that has this id
abbrev pub chip_with : List ChipData → ℕ → Option ChipData
chip_with table id = find (λ chip. chip.id == id) table

-- the pages that a segment keeps
abbrev pub pages_kept : Option SegmentData → List Kept
pages_kept None = []
pages_kept (Some segment) = segment.pages

-- the pages that segment k keeps, counted from the oldest, which is 1
abbrev pub segment_pages : StateData → ℕ → List Kept
segment_pages s k = pages_kept (segment_of s k)

-- page n is kept among these pages without its companion
abbrev pub lacks_companion : ChipData → List Kept → ℕ → Bool
lacks_companion chip among n =
    n == 1 && has_companion chip && not (list_any (λ kept. kept.page == 257) among)

-- the chip has this page, which is kept among these
abbrev pub fits_among : ChipData → List Kept → Kept → Bool
fits_among chip among kept = fits_chip chip kept && not (lacks_companion chip among kept.page)

-- these pages have page n, and the first of them is one of the chip
abbrev pub fits_as_kept : ChipData → List Kept → ℕ → Bool
fits_as_kept chip pages n =
    option_map_or (fits_among chip pages) (find (λ kept. kept.page == n) pages) false

-- the lines of those of the pages, kept among these, that a chip lacks, has in another size,
-- or hasn't without another
abbrev pub misfit_lines_of : ChipData → List Kept → List Kept → List ℕ
misfit_lines_of chip among pages =
    flat_map (λ kept. if fits_among chip among kept then [] else kept.line ∷ []) pages

-- such lines of all these segments, each segment's pages by themselves
abbrev pub misfit_lines : ChipData → List SegmentData → List ℕ
misfit_lines chip stack =
    flat_map (λ segment. misfit_lines_of chip segment.pages segment.pages) stack

-- the line of a header whose version is none of a chip with so many pages
abbrev pub header_misfits : ChipData → Option JournalHeader → List ℕ
header_misfits chip None = []
header_misfits chip (Some header) =
    if nat_lt 256 (page_count chip) && nat_lt header.version 2 then header.line ∷ [] else []

-- the lesser of this line and the least so far, if there is one
abbrev pub lesser : Option ℕ → ℕ → ℕ
lesser None line = line
lesser (Some least) line = min least line

-- the least of these lines and the least so far
abbrev pub least_with : Option ℕ → List ℕ → Option ℕ
least_with so_far lines = fold (λ so_far line. Some (lesser so_far line)) so_far lines

-- the least of these lines, if there is one
abbrev pub least : List ℕ → Option ℕ
least lines = fold (λ so_far line. Some (lesser so_far line)) None lines

-- the journal's header, or a page that it keeps, isn't one of the chip; the least such line is told
abbrev pub line_refusal : ChipData → StateData → Option Fault
line_refusal chip s =
    option_map (λ line. BadJournal line)
    (least (header_misfits chip s.header ++ misfit_lines chip s.stack))

-- the journal is of another board than this one, before all else; or one of its lines can't be of
-- the chip
abbrev pub misfit_refusal : ChipData → StateData → Option Fault
misfit_refusal chip s =
    if names_other_board chip.unique s then Some OtherBoard else line_refusal chip s

-- the table hasn't the device's id, or the journal isn't one of its chip
abbrev pub table_refusal : StateData → ℕ → Option ChipData → Option Fault
table_refusal s id None = Some (UnknownChip id)
table_refusal s id (Some chip) = misfit_refusal chip s

-- the journal can't go on with a device of this id
abbrev pub device_refusals : StateData → ℕ → List ChipData → List (Option Fault)
device_refusals s id table =
    refused_unless (not (names_other id s)) OtherDevice
    ∷ table_refusal s id (chip_with table id) ∷ []

-- what is refused before any command is looked at
abbrev pub opening_refusal : JournalData → Device → List ChipData → Option Fault
opening_refusal (bad line) d table = Some (BadJournal line)
opening_refusal (good s) d table =
    first_refusal
    (refused_unless (not (is_unfinished s)) Unfinished ∷ device_refusals s d.chip.id table)

-- what is refused before a byte is sent
abbrev pub unsent_refusal : JournalData → Option Fault
unsent_refusal (bad line) = Some (BadJournal line)
unsent_refusal (good s) = refused_unless (not (is_unfinished s)) Unfinished

-- what Go and the protections refuse, and they send nothing then
abbrev pub open_refusal : JournalData → Option Fault
open_refusal (bad line) = Some (BadJournal line)
open_refusal (good s) = refused_unless (length s.stack == 0) InSession

-- this refusal is answered, or a failure of the line, the journal or memory
abbrev pub AnswersRefusal : {T : Type 0} → Fault → Result T Fault → Type 0
AnswersRefusal fault (Ok x) = ⊥
AnswersRefusal fault (Err e) = (e ≡ fault) ⊎ IsOutsideFault e

-- each moment leaves what has P, the last one too, and the answer is this refusal
pub record Refuses {T : Type 0} (P : Device → List ℕ → Type 0) (fault : Fault) (old new : RigState)
    (result : Result T Fault) : Type 0 where
  pub moments : LeavesOnly P old new
  pub honest : new.is_honest
  pub left : P new.device new.journal
  pub answers : AnswersRefusal fault result

-- this refusal is answered, or a failure of the journal or of memory
abbrev pub AnswersUnsent : {T : Type 0} → Fault → Result T Fault → Type 0
AnswersUnsent fault (Ok x) = ⊥
AnswersUnsent fault (Err e) = (e ≡ fault) ⊎ IsJournalOrMemory e

-- the same before a byte is sent: the line isn't used, so that it can't fail
pub record RefusesUnsent {T : Type 0} (P : Device → List ℕ → Type 0) (fault : Fault)
    (old new : RigState) (result : Result T Fault) : Type 0 where
  pub moments : LeavesOnly P old new
  pub honest : new.is_honest
  pub left : P new.device new.journal
  pub answers : AnswersUnsent fault result
