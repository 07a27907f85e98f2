-- The lines that a session adds to its journal, all of them and in their order: functions of the
-- chip, the flash and the commands.
use Rattle.std.specs.Prelude.{ℕ, zero, suc, ◌+◌, ◌/◌, Bool, true, not, ◌&&◌, ◌==◌, nat_lt}
use Rattle.std.specs.Prelude.{if◌then◌else◌, List, [], ◌∷◌, ◌++◌, length, flat_map, bytes_eq}
use Rattle.std.specs.Prelude.{is_some}
use Rattle.stm_wire.specs.Chip.{ChipData, erased_byte, page_count, page_of}
use Rattle.stm_chip.specs.declared.plan.Frame.{Frame}
use Rattle.stm_chip.specs.Plan.{frames_of}
use Rattle.stm_journal.specs.declared.entry.Entry.{Entry}
use Rattle.stm_journal.specs.declared.entry.Entry.TheVariants.{Names, Opens, Keeps, Erases}
use Rattle.stm_journal.specs.declared.entry.Entry.TheVariants.{Programs, Ends, Undoes}
use Rattle.stm_journal.specs.declared.kept.Kept.{Kept}
use Rattle.stm_journal.specs.Text.{text_of}
use Rattle.stm_journal.specs.States.{SegmentData}
use Rattle.stm_journal.specs.Flashes.{with_kept_pages}
use Rattle.stm_journal.specs.Journals.{added_bytes, version_for}
use Rattle.stm_session.specs.Undoable.{has_companion, state_at}
use Rattle.stm_session.specs.Work.{kept_at_work, with_work}
use Rattle.stm_session.specs.Meaning.{CommandData, is_change, flash_after}

-- how many segments a journal has
abbrev pub depth_at : List ℕ → ℕ
depth_at journal = length (state_at journal).stack

-- the journal names a device
abbrev pub is_named_at : List ℕ → Bool
is_named_at journal = is_some (state_at journal).header

-- a torn tail stands at the journal's end: bytes behind its last LF
abbrev pub is_torn_at : List ℕ → Bool
is_torn_at journal = nat_lt 0 (length (text_of journal).tail)

-- a page is written where its plan has a frame
abbrev pub program_entries : ℕ → List Frame → List Entry
program_entries n [] = []
program_entries n (f ∷ frames) = Programs n ∷ []

-- a page that is to hold these bytes is erased, and then written where a byte
-- of it isn't the erased one
abbrev pub rewrite_entries : ChipData → ℕ → List ℕ → List Entry
rewrite_entries chip n new =
    Erases n ∷ program_entries n (frames_of (erased_byte chip) new (length new / 256))

-- page n of two flashes isn't the same
abbrev pub differs_in : ChipData → List ℕ → List ℕ → ℕ → Bool
differs_in chip old new n = not (bytes_eq (page_of chip old n) (page_of chip new n))

-- what is kept before page n is changed, where the pages below it were changed already: the page,
-- but for page 257 where it was kept before page 1
abbrev pub keep_entries : ChipData → List ℕ → List ℕ → ℕ → List Entry
keep_entries chip old new n =
    if n == 1 && has_companion chip
    then Keeps 257 (page_of chip old 257) ∷ Keeps 1 (page_of chip old 1) ∷ []
    else (if n == 257 && differs_in chip old new 1 then [] else Keeps n (page_of chip old n) ∷ [])

-- a page that changes is kept first; of one that doesn't nothing is said
abbrev pub page_entries : ChipData → List ℕ → List ℕ → ℕ → List Entry
page_entries chip old new n =
    if differs_in chip old new n
    then keep_entries chip old new n ++ rewrite_entries chip n (page_of chip new n) else []

-- the first n pages, rising
abbrev pub page_entries_below : ℕ → ChipData → List ℕ → List ℕ → List Entry
page_entries_below zero chip old new = []
page_entries_below (suc n) chip old new =
    page_entries_below n chip old new ++ page_entries chip old new n

-- a segment begins; a journal that names no device yet gets a header first, which names the board
-- too where its device told its unique id
abbrev pub opening_entries : Bool → ℕ → List ℕ → ℕ → List Entry
opening_entries named id unique k =
    if named then Opens k ∷ [] else Names (version_for unique) id unique ∷ Opens k ∷ []

-- segment k, from one flash to another
abbrev pub segment_entries : Bool → ChipData → ℕ → List ℕ → List ℕ → List Entry
segment_entries named chip k old new =
    opening_entries named chip.id chip.unique k
    ++ (page_entries_below (page_count chip) chip old new ++ Ends k ∷ [])

-- a run of commands above so many segments
abbrev pub run_entries : Bool → ChipData → ℕ → List ℕ → List CommandData → List Entry
run_entries named chip below flash [] = []
run_entries named chip below flash (c ∷ commands) =
    if is_change c
    then segment_entries named chip (below + 1) flash (flash_after chip flash c)
    ++ run_entries true chip (below + 1) (flash_after chip flash c) commands
    else run_entries named chip below flash commands

-- a kept page is put back; where it stands already nothing is said
abbrev pub return_entries : ChipData → List ℕ → Kept → List Entry
return_entries chip flash kept =
    if bytes_eq (page_of chip flash kept.page) kept.bytes then []
    else rewrite_entries chip kept.page kept.bytes

-- the pages at work are put back unread, before any other
abbrev pub work_entries : ChipData → List Kept → List Entry
work_entries chip work = flat_map (λ kept. rewrite_entries chip kept.page kept.bytes) work

-- so many segments are undone, the newest first
abbrev pub taken_entries : ChipData → ℕ → List SegmentData → List ℕ → List Entry
taken_entries chip zero stack flash = []
taken_entries chip (suc taken) [] flash = []
taken_entries chip (suc taken) (segment ∷ below) flash =
    flat_map (return_entries chip flash) segment.pages ++ (Undoes (length below + 1)
    ∷ taken_entries chip taken below (with_kept_pages chip segment flash))

-- an undo of so many: the pages at work first, and then the segments
abbrev pub undo_entries : ChipData → ℕ → List SegmentData → List ℕ → List Entry
undo_entries chip taken stack flash =
    work_entries chip (kept_at_work stack)
    ++ taken_entries chip taken stack (with_work chip (kept_at_work stack) flash)

-- their text; the first line makes a torn tail void, and where there is none nothing is added
abbrev pub text_added : Bool → List Entry → List ℕ
text_added torn [] = []
text_added torn (e ∷ entries) = added_bytes torn (e ∷ entries)
