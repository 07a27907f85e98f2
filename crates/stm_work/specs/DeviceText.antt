-- The text that tells of a device: what it is, what it says itself, and which board it is.
use Rattle.std.specs.Prelude.{ℕ, ◌*◌, ◌==◌, List, [], ◌∷◌, ◌++◌, length, take, codes, decimal}
use Rattle.std.specs.Prelude.{Option, Some, None, if◌then◌else◌, nat_lt}
use Rattle.std.specs.List.{flat_map}
use Rattle.hex.specs.Hex.{encode_upper}
use Rattle.stm_wire.specs.declared.chip.EraseKind.{EraseKind}
use Rattle.stm_wire.specs.declared.chip.EraseKind.TheVariants.{Page, Extended}
use Rattle.stm_wire.specs.declared.get_command.Commands.{Commands}
use Rattle.stm_session.specs.declared.asking_board.Board.{Board}
use Rattle.stm_session.specs.declared.contact.Told.{Told}
use Rattle.stm_session.specs.declared.information.Info.{Info}
use Rattle.stm_work.specs.UpperHex.{upper_hex}

-- a line with its LF
abbrev pub line_of_text : List ℕ → List ℕ
line_of_text text = text ++ 0x0A ∷ []

-- the product id of a device
abbrev pub id_text : ℕ → List ℕ
id_text id = line_of_text (codes "id " ++ upper_hex 4 id)

-- the address of its flash
abbrev pub base_text : ℕ → List ℕ
base_text base = line_of_text (codes "base " ++ upper_hex 8 base)

-- how many pages that has
abbrev pub pages_text : ℕ → List ℕ
pages_text pages = line_of_text (codes "pages " ++ decimal pages)

-- how many bytes those have
abbrev pub bytes_text : ℕ → List ℕ
bytes_text bytes = line_of_text (codes "size " ++ decimal bytes)

-- where the flash lies, and its size
abbrev pub flash_text : Info → List ℕ
flash_text info = base_text info.base ++ pages_text info.pages ++ bytes_text info.size

-- the code of the command that erases
abbrev pub erase_code_text : EraseKind → List ℕ
erase_code_text Page = codes "43"
erase_code_text Extended = codes "44"

-- that command
abbrev pub kind_text : EraseKind → List ℕ
kind_text kind = line_of_text (codes "erase " ++ erase_code_text kind)

-- what a place holds that is erased
abbrev pub blank_text : ℕ → List ℕ
blank_text blank = line_of_text (codes "erased " ++ upper_hex 2 blank)

-- both
abbrev pub erase_text : Info → List ℕ
erase_text info = kind_text info.kind ++ blank_text info.erased

-- the version of the bootloader
abbrev pub version_text : ℕ → List ℕ
version_text version = line_of_text (codes "version " ++ upper_hex 2 version)

-- a code in the list of them
abbrev pub code_text : ℕ → List ℕ
code_text code = 0x20 ∷ upper_hex 2 code

-- the codes of its commands, in one line
abbrev pub codes_text : List ℕ → List ℕ
codes_text list = line_of_text (codes "codes" ++ flat_map code_text list)

-- what a bootloader tells of itself
abbrev pub commands_text : Commands → List ℕ
commands_text told = version_text told.version ++ codes_text (take told.count told.codes)

-- what a device is
abbrev pub info_text : Info → List ℕ
info_text info =
    id_text info.id ++ flash_text info ++ erase_text info ++ commands_text info.commands

-- what a device says itself
abbrev pub told_text : Told → List ℕ
told_text told = id_text told.id ++ commands_text told.commands

-- the name of the chip table
abbrev pub table_text : List ℕ → List ℕ
table_text name = line_of_text (codes "table " ++ name)

-- the unique id of a board, where one was told
abbrev pub unique_text : List ℕ → List ℕ
unique_text unique =
    if length unique == 0 then [] else line_of_text (codes "board " ++ encode_upper unique)

-- how many bytes of flash were told, beside those of the pages
abbrev pub beside_text : ℕ → Option ℕ → List ℕ
beside_text told None = []
beside_text told (Some size) =
    if nat_lt size told then codes ", more than the pages"
    else if nat_lt told size then codes ", less than the pages"
    else []

-- the size of a flash in KiB, where one was told, beside the bytes of its pages
abbrev pub size_text : Option ℕ → Option ℕ → List ℕ
size_text None pages = []
size_text (Some kib) pages =
    line_of_text (codes "flash " ++ decimal kib ++ codes " KiB" ++ beside_text (kib * 1024) pages)

-- which board a device is, beside the bytes of its pages where its chip is known
abbrev pub board_text : Board → Option ℕ → List ℕ
board_text board pages = unique_text board.unique ++ size_text board.size pages
