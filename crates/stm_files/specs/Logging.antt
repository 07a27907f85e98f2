-- What `log` tells of a journal, as a text.
use Rattle.std.specs.Prelude.{ℕ, ◌+◌, ◌/◌, ◌%◌, ◌==◌, if◌then◌else◌, List, [], ◌∷◌, ◌++◌}
use Rattle.std.specs.Prelude.{codes, decimal, length, map, Option, Some, None}
use Rattle.std.specs.List.{flat_map, range_with_len}
use Rattle.std.specs.Option.{option_map_or}
use Rattle.hex.specs.Hex.{encode_upper}
use Rattle.stm_wire.specs.declared.intent.Intent.{Intent}
use Rattle.stm_wire.specs.declared.intent.Intent.TheVariants.{Erase, Program}
use Rattle.stm_journal.specs.declared.header.JournalHeader.{JournalHeader}
use Rattle.stm_journal.specs.declared.stage.Stage.{Stage}
use Rattle.stm_journal.specs.declared.stage.Stage.TheVariants.{Open, Ended, Returning}
use Rattle.stm_journal.specs.States.{StateData, SegmentData, board_of, depth, intent_at, is_unfinished}
use Rattle.stm_journal.specs.States.{segment_of}
use Rattle.stm_files.specs.declared.begun.Note.{Note}
use Rattle.stm_files.specs.Begun.{begun_text}

-- pages from one to another
abbrev pub range_text : ℕ → ℕ → List ℕ
range_text first last =
    codes " " ++ decimal first ++ (if first == last then [] else codes "-" ++ decimal last)

-- pages in the order of their lines, those that follow one another as a range; before
-- them stand `first` to `last`
abbrev pub logged_pages : ℕ → ℕ → List ℕ → List ℕ
logged_pages first last [] = range_text first last
logged_pages first last (n ∷ pages) =
    if n == last + 1 then logged_pages first n pages
    else range_text first last ++ logged_pages n n pages

-- all pages of a segment
abbrev pub kept_pages_text : List ℕ → List ℕ
kept_pages_text [] = []
kept_pages_text (n ∷ pages) = codes ":" ++ logged_pages n n pages

abbrev pub stage_text : Stage → List ℕ
stage_text (Open i) = codes "open"
stage_text Ended = codes "ended"
stage_text (Returning i) = codes "returning"

-- what is being done, by the newest intent
abbrev pub intent_text : Option Intent → List ℕ
intent_text None = []
intent_text (Some (Erase n)) = codes ", erasing " ++ decimal n
intent_text (Some (Program n)) = codes ", writing " ++ decimal n

-- the numbers of a segment's pages, in the order of their lines
abbrev pub numbers_of : SegmentData → List ℕ
numbers_of segment = map (λ kept. kept.page) segment.pages

-- what is told of a segment between its number and its pages
abbrev pub standing_text : SegmentData → List ℕ
standing_text segment =
    codes ": " ++ stage_text segment.stage
    ++ (codes ", " ++ decimal (length segment.pages) ++ codes " pages")

-- the line of segment k
abbrev pub logged_segment : ℕ → SegmentData → List ℕ
logged_segment k segment =
    codes "segment " ++ decimal k ++ (standing_text segment
    ++ (kept_pages_text (numbers_of segment) ++ (intent_text (intent_at segment.stage) ++ 10 ∷ [])))

abbrev pub logged_line : StateData → ℕ → List ℕ
logged_line s k = option_map_or (logged_segment k) (segment_of s k) []

abbrev pub logged_id : Option JournalHeader → List ℕ
logged_id None = []
logged_id (Some header) =
    codes "id " ++ encode_upper (header.id / 256 ∷ header.id % 256 ∷ []) ++ 10 ∷ []

abbrev pub logged_board : Option (List ℕ) → List ℕ
logged_board None = []
logged_board (Some unique) = codes "board " ++ encode_upper unique ++ 10 ∷ []

-- the device, and its board where the journal names it
abbrev pub logged_device : StateData → List ℕ
logged_device s = logged_id s.header ++ logged_board (board_of s)

-- what can be done next
abbrev pub end_text : StateData → List ℕ
end_text s =
    if is_unfinished s then codes "unfinished, undo first" ++ 10 ∷ []
    else decimal (depth s) ++ codes " can be undone" ++ 10 ∷ []

-- the line of segment k, and what is said of its beginning
abbrev pub noted_line : List Note → StateData → ℕ → List ℕ
noted_line notes s k = logged_line s k ++ begun_text notes k

-- the device and its board, a line for each segment, the oldest first, with what is said of its
-- beginning, and what can be done next
abbrev pub log_text : List Note → StateData → List ℕ
log_text notes s =
    (logged_device s ++ flat_map (noted_line notes s) (range_with_len 1 (depth s))) ++ end_text s
