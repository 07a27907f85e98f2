-- What run and undo refuse, in the order of their steps, as functions of the journal, the device,
-- the table and the commands.
use Rattle.std.specs.Prelude.{ℕ, ◌+◌, Bool, not, ◌||◌, ◌==◌, nat_le, if◌then◌else◌, List, [], ◌∷◌}
use Rattle.std.specs.Prelude.{length, Option, Some, None}
use Rattle.std.specs.List.{list_all, list_any}
use Rattle.stm_image.specs.Pairs.{Pairs}
use Rattle.stm_wire.specs.declared.chip.EraseKind.{EraseKind}
use Rattle.stm_wire.specs.declared.chip.EraseKind.TheVariants.{Page, Extended}
use Rattle.stm_wire.specs.Chip.{ChipData, is_inside, fits_inside}
use Rattle.stm_wire.specs.Device.{Device}
use Rattle.stm_wire.specs.Exchange.{is_listed, all_exist}
use Rattle.stm_journal.specs.declared.header.JournalHeader.{JournalHeader}
use Rattle.stm_journal.specs.States.{StateData}
use Rattle.stm_journal.specs.Journals.{JournalData, good, bad}
use Rattle.stm_session.specs.declared.command.Command.{Command}
use Rattle.stm_session.specs.declared.fault.Fault.{Fault}
use Rattle.stm_session.specs.declared.fault.Fault.TheVariants as fault
use Rattle.stm_session.specs.Refusal.{refused_unless, first_refusal, chip_with, table_refusal}
use Rattle.stm_session.specs.Refusal.{opening_refusal}
use Rattle.stm_session.specs.Meaning.{CommandData, writes, erases, verifies, reads, is_change}
use Rattle.stm_session.specs.Meaning.{changes_of, command_data}

-- the code of the command that erases pages
abbrev pub erase_code : EraseKind → ℕ
erase_code Page = 0x43
erase_code Extended = 0x44

-- the device lists the command by which the chip's pages are erased
abbrev pub can_erase : ChipData → Device → Bool
can_erase chip d = is_listed d.codes (erase_code chip.kind)

-- each address of the image lies inside the flash
abbrev pub image_fits : ChipData → Pairs → Bool
image_fits chip image = list_all (λ pair. is_inside chip pair.0) image

-- the command names no place outside the flash, and no page that the chip
-- hasn't; no bytes lie anywhere
abbrev pub lies_in_flash : ChipData → CommandData → Bool
lies_in_flash chip (writes image) = image_fits chip image
lies_in_flash chip (erases pages) = all_exist chip pages
lies_in_flash chip (verifies image) = image_fits chip image
lies_in_flash chip (reads start size) = size == 0 || fits_inside chip start size

abbrev pub is_in_flash : ChipData → Command → Bool
is_in_flash chip c = lies_in_flash chip (command_data c)

-- what is refused of the commands, on a chip that is known
abbrev pub command_refusals : StateData → Device → ChipData → List CommandData → List (Option Fault)
command_refusals s d chip commands =
    refused_unless (not (list_any is_change commands) || can_erase chip d) fault.NoErase
    ∷ refused_unless (list_all (lies_in_flash chip) commands) fault.OutOfFlash
    ∷ refused_unless (nat_le (length s.stack + length (changes_of commands)) 65535) fault.Full
    ∷ []

-- the first refusal of these commands, where the journal is good and the chip is known
abbrev pub commands_refused : JournalData → Device → Option ChipData → List CommandData
    → Option Fault
commands_refused (bad line) d chip commands = None
commands_refused (good s) d None commands = None
commands_refused (good s) d (Some chip) commands =
    first_refusal (command_refusals s d chip commands)

-- what a run of these commands refuses: first what an opening refuses
abbrev pub run_refusal : JournalData → Device → List ChipData → List CommandData → Option Fault
run_refusal journal d table commands =
    first_refusal (opening_refusal journal d table
    ∷ commands_refused journal d (chip_with table d.chip.id) commands ∷ [])

-- what an undo refuses before a byte is sent, where there is a segment: it goes by the
-- id that the journal names
abbrev pub undo_refusal_of : StateData → List ChipData → Option JournalHeader → Option Fault
undo_refusal_of s table None = None
undo_refusal_of s table (Some header) = table_refusal s header.id (chip_with table header.id)

-- the same of any journal: a bad one is refused, and a good one without a segment isn't
abbrev pub undo_refusal : JournalData → List ChipData → Option Fault
undo_refusal (bad line) table = Some (fault.BadJournal line)
undo_refusal (good s) table = if length s.stack == 0 then None else undo_refusal_of s table s.header

-- and what it refuses once the device has said who it is: its codes first, then its id
abbrev pub undo_misfit : ChipData → ℕ → Device → Option Fault
undo_misfit chip id d =
    first_refusal (refused_unless (can_erase chip d) fault.NoErase
    ∷ refused_unless (d.chip.id == id) fault.OtherDevice ∷ [])
