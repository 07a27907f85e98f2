-- What a line of JSON tells of a device: what it is, what it says itself, and which board it is.
use Rattle.std.specs.Prelude.{ℕ, ◌==◌, List, [], ◌∷◌, ◌++◌, length, take, codes}
use Rattle.std.specs.Prelude.{Option, Some, None, if◌then◌else◌}
use Rattle.std.specs.List.{flat_map}
use Rattle.hex.specs.Hex.{encode_upper}
use Rattle.stm_wire.specs.declared.get_command.Commands.{Commands}
use Rattle.stm_session.specs.declared.asking_board.Board.{Board}
use Rattle.stm_session.specs.declared.contact.Told.{Told}
use Rattle.stm_session.specs.declared.information.Info.{Info}
use Rattle.stm_work.specs.DeviceText.{erase_code_text}
use Rattle.stm_work.specs.JsonLine.{lines_member, number_member, text_member}
use Rattle.stm_work.specs.UpperHex.{upper_hex}

-- a code in its line
abbrev pub code_line : ℕ → List ℕ
code_line code = upper_hex 2 code ++ 0x0A ∷ []

-- what a bootloader tells of itself
abbrev pub commands_members : Commands → List ℕ
commands_members told =
    text_member (codes "version") (upper_hex 2 told.version)
    ++ lines_member (codes "codes") (flat_map code_line (take told.count told.codes))

-- where the flash lies, and its size
abbrev pub flash_members : Info → List ℕ
flash_members info =
    text_member (codes "base") (upper_hex 8 info.base)
    ++ number_member (codes "pages") info.pages ++ number_member (codes "size") info.size

-- the code of the command that erases, and what it leaves
abbrev pub erase_members : Info → List ℕ
erase_members info =
    text_member (codes "erase") (erase_code_text info.kind)
    ++ text_member (codes "erased") (upper_hex 2 info.erased)

-- what a device is
abbrev pub info_members : Info → List ℕ
info_members info =
    text_member (codes "id") (upper_hex 4 info.id) ++ flash_members info ++ erase_members info
    ++ commands_members info.commands

-- what a device says itself
abbrev pub told_members : Told → List ℕ
told_members told =
    text_member (codes "id") (upper_hex 4 told.id) ++ commands_members told.commands

-- the unique id of a board, where it told one
abbrev pub unique_members : List ℕ → List ℕ
unique_members unique =
    if length unique == 0 then [] else text_member (codes "board") (encode_upper unique)

-- the size of a flash in KiB, where the board told one
abbrev pub size_members : Option ℕ → List ℕ
size_members None = []
size_members (Some kib) = number_member (codes "flash_kib") kib

-- which board it is, the size that it told, and its chip, where it was asked
abbrev pub board_members : Option Board → List ℕ
board_members None = []
board_members (Some board) =
    unique_members board.unique ++ size_members board.size
    ++ text_member (codes "chip") (upper_hex 4 board.id)
