-- What an undo refuses before its device is asked which board it is: what table and journal alone
-- say, whatever board of the table's chip that is.
use Rattle.std.specs.Prelude.{ℕ, not, ◌&&◌, ◌||◌, ◌==◌, Bool, false, if◌then◌else◌, List, length}
use Rattle.std.specs.Prelude.{Option, Some, None, is_none, is_some}
use Rattle.std.specs.Option.{option_map_or}
use Rattle.stm_wire.specs.declared.places.UniquePlace.{UniquePlace}
use Rattle.stm_wire.specs.Chip.{ChipData}
use Rattle.stm_journal.specs.declared.header.JournalHeader.{JournalHeader}
use Rattle.stm_journal.specs.Journals.{JournalData, bad, good}
use Rattle.stm_journal.specs.States.{StateData, board_of, is_unfinished}
use Rattle.stm_session.specs.declared.fault.Fault.{Fault}
use Rattle.stm_session.specs.declared.fault.Fault.TheVariants.{BadJournal, OtherBoard, UnknownChip}
use Rattle.stm_session.specs.Refusal.{chip_with, first_of, line_refusal}

-- how many bytes the unique id has that is told here
abbrev pub told_length : Option UniquePlace → ℕ
told_length None = 0
told_length (Some place) = place.length

-- a unique id that no such chip tells: one of another length
abbrev pub is_never_told : ChipData → List ℕ → Bool
is_never_told chip unique =
    not (length unique == 0) && not (length unique == told_length chip.places.unique)

-- the header names a board of no such chip
abbrev pub names_no_board : ChipData → StateData → Bool
names_no_board chip s = option_map_or (is_never_told chip) (board_of s) false

-- A board of a chip that tells how large its flash is may have fewer pages, from the first on. A
-- journal that doesn't fit the whole chip can fit one with 257, of which page 1 has no companion, or
-- with 256, of which a header of version 1 may be; where it fits neither it fits none.
abbrev pub fits_fewer : ChipData → StateData → Bool
fits_fewer chip s = is_some chip.places.size
    && (is_none (line_refusal (first_of 257 chip) s)
    || is_none (line_refusal (first_of 256 chip) s))

-- no board of the chip is the journal's
abbrev pub unasked_refusal : ChipData → StateData → Option Fault
unasked_refusal chip s =
    if names_no_board chip s then Some OtherBoard
    else if fits_fewer chip s then None else line_refusal chip s

-- or the table hasn't the journal's id
abbrev pub unlisted_refusal : StateData → ℕ → Option ChipData → Option Fault
unlisted_refusal s id None = Some (UnknownChip id)
unlisted_refusal s id (Some chip) = unasked_refusal chip s

-- of a journal with a segment, which has a header
abbrev pub begun_refusal : StateData → List ChipData → Option JournalHeader → Option Fault
begun_refusal s table None = None
begun_refusal s table (Some header) = unlisted_refusal s header.id (chip_with table header.id)

-- of any journal, where the device is settled by an intent: a bad one is refused, and a finished one
-- isn't
abbrev pub asking_refusal : JournalData → List ChipData → Option Fault
asking_refusal (bad line) table = Some (BadJournal line)
asking_refusal (good s) table = if is_unfinished s then begun_refusal s table s.header else None
