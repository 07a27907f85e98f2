-- The text that each answer of the program is told by on standard output: lines, each ended by LF.
use Rattle.std.specs.Prelude.{ℕ, ◌==◌, List, [], ◌++◌, codes, decimal}
use Rattle.std.specs.Prelude.{Option, Some, None, if◌then◌else◌, string_bytes}
use Rattle.stm_session.specs.declared.asking_board.Board.{Board}
use Rattle.stm_work.specs.declared.answer.Answer.{Answer}
use Rattle.stm_work.specs.declared.answer.Answer.TheVariants as answer
use Rattle.stm_work.specs.DeviceText.{board_text, info_text, line_of_text, table_text, told_text}
use Rattle.stm_work.specs.UpperHex.{upper_hex}

-- a change: the number of its segment, and how many pages it changed
abbrev pub change_text : ℕ → ℕ → List ℕ → List ℕ
change_text segment pages done =
    line_of_text (codes "segment " ++ decimal segment ++ codes ": " ++ decimal pages
    ++ codes " pages " ++ done)

-- a write
abbrev pub written_text : ℕ → ℕ → List ℕ
written_text segment pages = change_text segment pages (codes "written")

-- an erase
abbrev pub erased_text : ℕ → ℕ → List ℕ
erased_text segment pages = change_text segment pages (codes "erased")

-- of how many bytes the flash has the image's
abbrev pub verified_head : ℕ → List ℕ
verified_head bytes = codes "verified " ++ decimal bytes ++ codes " bytes"

abbrev pub verified_text : ℕ → List ℕ
verified_text bytes = line_of_text (verified_head bytes)

-- a CRC
abbrev pub sum_text : ℕ → List ℕ
sum_text crc = line_of_text (codes "crc " ++ upper_hex 8 crc)

-- how many segments were undone
abbrev pub undone_head : ℕ → List ℕ
undone_head count = codes "undone " ++ decimal count

-- how many bytes of theirs were read again, behind that
abbrev pub behind_text : ℕ → List ℕ
behind_text bytes = codes ", " ++ decimal bytes

-- and what that was
abbrev pub again_text : List ℕ
again_text = line_of_text (codes " bytes verified")

-- the same of a write's bytes, where it didn't read all again
abbrev pub of_them_text : List ℕ
of_them_text = line_of_text (codes " of them again")

abbrev pub partly_text : ℕ → List ℕ
partly_text again = behind_text again ++ of_them_text

abbrev pub seen_text : ℕ → ℕ → List ℕ
seen_text bytes again =
    if again == bytes then verified_text bytes else verified_head bytes ++ partly_text again

-- the line of an undo, with those bytes where that is told
abbrev pub undone_text : ℕ → Option ℕ → List ℕ
undone_text count None = line_of_text (undone_head count)
undone_text count (Some bytes) = undone_head count ++ behind_text bytes ++ again_text

-- how many segments stay
abbrev pub kept_text : ℕ → List ℕ
kept_text count = line_of_text (codes "kept " ++ decimal count)

-- how many of them can be undone
abbrev pub left_text : ℕ → List ℕ
left_text left = decimal left ++ line_of_text (codes " can be undone")

-- how many real boards were tried
abbrev pub tried_text : ℕ → List ℕ
tried_text tried =
    if tried == 0 then line_of_text (codes "tried on no board yet")
    else if tried == 1 then line_of_text (codes "tried on 1 board")
    else line_of_text (codes "tried on " ++ decimal tried ++ codes " boards")

-- an answer, but for what is told beside it
abbrev pub answer_text : Answer → List ℕ
answer_text answer.Nothing = []
answer_text (answer.Told info tried) = info_text info
answer_text (answer.Identified told (Some table)) = told_text told ++ table_text (string_bytes table)
answer_text (answer.Identified told None) = told_text told
answer_text (answer.Bytes bytes) = bytes.items
answer_text (answer.Filed bytes crc) = []
answer_text (answer.Sum crc) = sum_text crc
answer_text (answer.Written segment pages bytes crc (Some again)) =
    written_text segment pages ++ seen_text bytes again
answer_text (answer.Written segment pages bytes crc None) = written_text segment pages
answer_text (answer.Verified bytes crc) = verified_text bytes
answer_text (answer.Erased segment pages) = erased_text segment pages
answer_text (answer.Undone count bytes) = undone_text count bytes
answer_text (answer.UndoneBeside count bytes unchanged left) = undone_text count bytes
answer_text (answer.Logged text segments) = text.items
answer_text (answer.Kept count (Some left)) = kept_text count ++ left_text left
answer_text (answer.Kept count None) = kept_text count

-- which board told an answer, where it tells what a device is
abbrev pub board_text_of : Answer → Board → List ℕ
board_text_of (answer.Told info tried) board = board_text board (Some info.size)
board_text_of (answer.Identified told table) board = board_text board None
board_text_of _ board = []

-- how many boards were tried, where that is of an answer
abbrev pub tried_text_of : Answer → List ℕ
tried_text_of (answer.Told info (Some tried)) = tried_text tried
tried_text_of _ = []
