-- What the commands of a session make of a flash.
use Rattle.std.specs.Prelude.{ℕ, Bool, true, false, List, [], ◌∷◌, fold, filter, map}
use Rattle.stm_image.specs.Lay.{lay}
use Rattle.stm_image.specs.Pairs.{Pairs}
use Rattle.stm_wire.specs.Chip.{ChipData}
use Rattle.stm_wire.specs.Effect.{erased_pages}
use Rattle.stm_session.specs.declared.command.Command.{Command}
use Rattle.stm_session.specs.declared.command.Command.TheVariants as command

-- a command, by what it names: an image's places and bytes, pages, or a range of the flash
pub data CommandData : Type 0 where
  writes : (image : Pairs) → CommandData
  erases : (pages : List ℕ) → CommandData
  verifies : (image : Pairs) → CommandData
  reads : (start size : ℕ) → CommandData

abbrev pub command_data : Command → CommandData
command_data (command.Write image) = writes image
command_data (command.Erase pages) = erases pages.items
command_data (command.Verify image) = verifies image
command_data (command.Read start size) = reads start size

abbrev pub commands_in : List Command → List CommandData
commands_in commands = map command_data commands

-- the flash after a command
abbrev pub flash_after : ChipData → List ℕ → CommandData → List ℕ
flash_after chip flash (writes image) = lay image chip.base flash
flash_after chip flash (erases pages) = erased_pages chip pages flash
flash_after chip flash (verifies image) = flash
flash_after chip flash (reads start size) = flash

-- the flash after these commands, one after another
abbrev pub flash_after_all : ChipData → List ℕ → List CommandData → List ℕ
flash_after_all chip flash commands = fold (flash_after chip) flash commands

-- the command begins a segment
abbrev pub is_change : CommandData → Bool
is_change (writes image) = true
is_change (erases pages) = true
is_change (verifies image) = false
is_change (reads start size) = false

-- those of the commands that begin a segment, in their order
abbrev pub changes_of : List CommandData → List CommandData
changes_of commands = filter is_change commands

-- these flashes, with one more in front of them where the test holds
abbrev pub before_if : Bool → List ℕ → List (List ℕ) → List (List ℕ)
before_if true flash flashes = flash ∷ flashes
before_if false flash flashes = flashes

-- the flashes before each command that begins a segment, in their order
abbrev pub flashes_before : ChipData → List ℕ → List CommandData → List (List ℕ)
flashes_before chip flash [] = []
flashes_before chip flash (c ∷ commands) =
    before_if (is_change c) flash (flashes_before chip (flash_after chip flash c) commands)
