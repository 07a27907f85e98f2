-- What a line of JSON tells of an answer, and of words that are refused.
use Rattle.std.specs.Prelude.{ℕ, List, [], ◌++◌, codes, string_bytes}
use Rattle.std.specs.Prelude.{◌≡◌, Option, Some, None, MatchOption}
use Rattle.stm_session.specs.declared.asking_board.Board.{Board}
use Rattle.stm_work.specs.declared.answer.Answer.{Answer}
use Rattle.stm_work.specs.declared.answer.Answer.TheVariants as answer
use Rattle.stm_work.specs.declared.hint.Hint.{Hint}
use Rattle.stm_work.specs.declared.hint.Hint.TheVariants as hint
use Rattle.stm_work.specs.declared.steps.Steps.{Steps}
use Rattle.stm_work.specs.declared.steps.Used.{Used}
use Rattle.stm_work.specs.DeviceJson.{board_members, info_members, told_members}
use Rattle.stm_work.specs.JsonLine.{line_end, lines_member, made_member, number_member, numbers_member}
use Rattle.stm_work.specs.JsonLine.{object_of, text_member}
use Rattle.stm_work.specs.UpperHex.{upper_hex}

-- the name of an undo, by whether bytes were read again
abbrev pub undone_name : Option ℕ → List ℕ
undone_name None = codes "undone"
undone_name (Some bytes) = codes "undone_and_verified"

-- the name of an answer, wherever programs read it
abbrev pub answer_name : Answer → List ℕ
answer_name answer.Nothing = codes "done"
answer_name (answer.Told info tried) = codes "info"
answer_name (answer.Identified told table) = codes "identified"
answer_name (answer.Bytes bytes) = codes "done"
answer_name (answer.Filed bytes crc) = codes "done"
answer_name (answer.Sum crc) = codes "crc"
answer_name (answer.Written segment pages bytes crc (Some again)) = codes "written_and_verified"
answer_name (answer.Written segment pages bytes crc None) = codes "written"
answer_name (answer.Verified bytes crc) = codes "verified"
answer_name (answer.Erased segment pages) = codes "erased"
answer_name (answer.Undone count bytes) = undone_name bytes
answer_name (answer.UndoneBeside count bytes unchanged left) = undone_name bytes
answer_name (answer.Logged text segments) = codes "log"
answer_name (answer.Kept count left) = codes "kept"

-- the number of a segment, and how many pages it changed
abbrev pub change_members : ℕ → ℕ → List ℕ
change_members segment pages =
    number_member (codes "segment") segment ++ number_member (codes "pages") pages

-- how many bytes of an image were read again, where that is told
abbrev pub again_members : Option ℕ → List ℕ
again_members None = []
again_members (Some again) = number_member (codes "again") again

-- how many segments were undone, and how many bytes were read again, where that is told
abbrev pub undone_members : ℕ → Option ℕ → List ℕ
undone_members count None = number_member (codes "count") count
undone_members count (Some bytes) =
    number_member (codes "count") count ++ number_member (codes "bytes") bytes

-- a CRC
abbrev pub crc_member : ℕ → List ℕ
crc_member crc = text_member (codes "crc") (upper_hex 8 crc)

-- the segments of a journal, where they are told
abbrev pub segments_member : List ℕ → List ℕ
segments_member [] = []
segments_member segments = made_member (codes "segments") segments

-- what an answer tells
abbrev pub members_of : Answer → List ℕ
members_of answer.Nothing = []
members_of (answer.Told info (Some tried)) =
    info_members info ++ number_member (codes "tried") tried
members_of (answer.Told info None) = info_members info ++ number_member (codes "tried") 0
members_of (answer.Identified told (Some table)) =
    told_members told ++ text_member (codes "table") (string_bytes table)
members_of (answer.Identified told None) = told_members told
members_of (answer.Bytes bytes) = []
members_of (answer.Filed bytes crc) = number_member (codes "bytes") bytes ++ crc_member crc
members_of (answer.Sum crc) = crc_member crc
members_of (answer.Written segment pages bytes crc again) =
    change_members segment pages ++ number_member (codes "bytes") bytes ++ again_members again
    ++ crc_member crc
members_of (answer.Verified bytes crc) = number_member (codes "bytes") bytes ++ crc_member crc
members_of (answer.Erased segment pages) = change_members segment pages
members_of (answer.Undone count bytes) = undone_members count bytes
members_of (answer.UndoneBeside count bytes unchanged left) =
    undone_members count bytes ++ numbers_member (codes "unchanged") unchanged.items
members_of (answer.Logged text segments) =
    lines_member (codes "lines") text.items ++ segments_member segments.items
members_of (answer.Kept count None) = number_member (codes "count") count
members_of (answer.Kept count (Some left)) =
    number_member (codes "count") count ++ number_member (codes "left") left

-- how long it took, where a clock told it
abbrev pub time_member : Option ℕ → List ℕ
time_member None = []
time_member (Some milliseconds) = number_member (codes "milliseconds") milliseconds

-- with what a device was used, where that is told
abbrev pub used_members : Option Used → List ℕ
used_members None = []
used_members (Some used) =
    text_member (codes "journal") used.journal.now ++ time_member used.milliseconds

-- which board it was, where it was asked, and with what it was used
abbrev pub beside_members : Option Board → Option Used → List ℕ
beside_members board used = board_members board ++ used_members used

-- the line of an answer, with what is told beside it
abbrev pub answer_line : Answer → Option Board → Option Used → List ℕ
answer_line answer board used =
    object_of (codes "answer") (answer_name answer) ++ members_of answer
    ++ beside_members board used ++ line_end

-- the line of what stays, where the journal was kept
abbrev pub kept_line : Option ℕ → List ℕ
kept_line None = []
kept_line (Some count) = answer_line (answer.Kept count None) None None

-- the lines of what was done
abbrev pub steps_lines : Steps → List ℕ
steps_lines steps =
    answer_line steps.answer steps.board steps.used ++ kept_line steps.kept

-- the line of what was done, with what is to be done then, as it says
abbrev pub next_line : List ℕ → Steps → List ℕ
next_line says steps =
    object_of (codes "answer") (answer_name steps.answer) ++ members_of steps.answer
    ++ beside_members steps.board steps.used ++ text_member (codes "hint") says ++ line_end

-- which hint is told there: that an undo is due, and what the bytes that were written look like
abbrev pub told_in_line : Hint → Option Hint
told_in_line hint.NowUndo = Some hint.NowUndo
told_in_line (hint.LikeErase address) = Some (hint.LikeErase address)
told_in_line (hint.LikeEraseBehind count) = Some (hint.LikeEraseBehind count)
told_in_line other = None

-- what is told to be done behind what was done
abbrev pub next_told : Option Hint → Option Hint
next_told None = None
next_told (Some hint) = told_in_line hint

-- it is the lines of what was done, of which the first says it too where something is to be done then
abbrev pub AreLines : Option Hint → Steps → List ℕ → Type 0
AreLines hint steps text =
    MatchOption (next_told hint) (text ≡ steps_lines steps)
    (λ next. (says : List ℕ) × (text ≡ next_line says steps ++ kept_line steps.kept))

-- the line of words that are refused, with this text
abbrev pub refusal_line : List ℕ → List ℕ
refusal_line text =
    object_of (codes "fault") (codes "usage") ++ text_member (codes "says") text
    ++ number_member (codes "status") 2 ++ line_end
