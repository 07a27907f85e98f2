-- Worked examples, computed. The chips are small, so that they can be read.
use Rattle.std.specs.Prelude.{◌≡◌, ℕ, true, false, List, [], ◌∷◌, ◌++◌, replicate, codes, Some}
use Rattle.std.specs.Prelude.{None, Ok, Err, refl}
use Rattle.std.specs.Fmt.{digits}
use Rattle.hex.specs.Hex.{encode_with}
use Rattle.hex.proofs.OnLiterals.{hex_on_literals}
use Rattle.stm_image.specs.Lay.{lay}
use Rattle.stm_wire.specs.declared.chip.EraseKind.TheVariants.{Page, Extended}
use Rattle.stm_wire.specs.declared.intent.Intent.{Intent}
use Rattle.stm_wire.specs.declared.intent.Intent.TheVariants.{Erase, Program}
use Rattle.stm_wire.specs.Chip.{ChipData, chip_of, of_board}
use Rattle.stm_wire.specs.Device.{Device, Fresh}
use Rattle.stm_chip.specs.Plan.{frames_of, used_length}
use Rattle.stm_journal.specs.declared.kept.Kept.{Kept}
use Rattle.stm_journal.specs.declared.header.JournalHeader.{JournalHeader}
use Rattle.stm_journal.specs.declared.stage.Stage.{Stage}
use Rattle.stm_journal.specs.declared.stage.Stage.TheVariants.{Open, Ended, Returning}
use Rattle.stm_journal.specs.declared.entry.Entry.TheVariants.{Names, Opens, Keeps, Erases}
use Rattle.stm_journal.specs.declared.entry.Entry.TheVariants.{Programs, Ends, Undoes}
use Rattle.stm_journal.specs.States.{SegmentData, StateData}
use Rattle.stm_journal.specs.Journals.{JournalData, good, bad, journal_of}
use Rattle.stm_journal.specs.Flashes.{flashes_before_segments}
use Rattle.stm_session.specs.declared.fault.Fault.TheVariants as faults
use Rattle.stm_session.specs.Meaning.{CommandData, writes, erases, verifies, reads, flash_after_all}
use Rattle.stm_session.specs.Answers.{answers_of, agreeing, was_written, was_erased, was_read}
use Rattle.stm_session.specs.Refusals.{run_refusal, undo_refusal, undo_misfit}
use Rattle.stm_session.specs.Lines.{depth_at, run_entries, undo_entries, text_added}
use Rattle.stm_session.specs.Undoable.{is_unfinished_at, state_at}
use Rattle.stm_session.specs.Undoes.{taken_count}

-- two pages of four bytes, too small for a real chip
abbrev small : ChipData
small = chip_of 0x412 0x08000000 (4 ∷ 4 ∷ []) Page 0xFF

abbrev zeros : List ℕ
zeros = 0 ∷ 0 ∷ 0 ∷ 0 ∷ 0 ∷ 0 ∷ 0 ∷ 0 ∷ []

abbrev middle : List CommandData
middle = writes ((0x08000003, 0xAA) ∷ (0x08000004, 0xBB) ∷ []) ∷ []

abbrev after_middle : List ℕ
after_middle = 0 ∷ 0 ∷ 0 ∷ 0xAA ∷ 0xBB ∷ 0 ∷ 0 ∷ 0 ∷ []

-- an image over two pages, and the same again
two_pages : answers_of small 0 zeros middle ≡ Ok (was_written 1 2 ∷ [])
unfolding lay
two_pages = refl

again : answers_of small 1 after_middle middle ≡ Ok (was_written 2 0 ∷ [])
unfolding lay
again = refl

-- two writes and a read
writes_then_reads : answers_of small 0 zeros
    (writes ((0x08000000, 0x11) ∷ []) ∷ writes ((0x08000000, 0x22) ∷ []) ∷ reads 0x08000000 1 ∷ [])
    ≡ Ok (was_written 1 1 ∷ was_written 2 1 ∷ was_read (0x22 ∷ []) ∷ [])
unfolding lay
writes_then_reads = refl

-- a verify tells the least address that differs, and what comes after it isn't begun
differs : answers_of small 0 zeros (writes ((0x08000000, 7) ∷ [])
    ∷ verifies ((0x08000000, 7) ∷ (0x08000005, 1) ∷ (0x08000006, 1) ∷ [])
    ∷ writes ((0x08000001, 7) ∷ []) ∷ [])
    ≡ Err 0x08000005
unfolding lay
differs = refl

stands : flash_after_all small zeros
    (agreeing small zeros (writes ((0x08000000, 7) ∷ []) ∷ verifies ((0x08000005, 1) ∷ [])
    ∷ writes ((0x08000001, 7) ∷ []) ∷ []))
    ≡ 7 ∷ 0 ∷ 0 ∷ 0 ∷ 0 ∷ 0 ∷ 0 ∷ 0 ∷ []
unfolding lay
stands = refl

-- what a write of a page of 256 bytes adds to a journal: the page's frame isn't skipped
abbrev one : ChipData
one = chip_of 0x412 0x08000000 (256 ∷ 256 ∷ []) Page 0xFF

-- the second run of the same image adds two lines
same_adds : run_entries true one 1 (replicate 512 0) (writes ((0x08000000, 0) ∷ []) ∷ [])
    ≡ Opens 2 ∷ Ends 2 ∷ []
unfolding lay
same_adds = refl

empty_adds : run_entries false one 0 (replicate 512 0xFF) (writes [] ∷ [])
    ≡ Names 2 0x412 [] ∷ Opens 1 ∷ Ends 1 ∷ []
unfolding lay
empty_adds = refl

-- a device that told its unique id is named with it
abbrev board_one : List ℕ
board_one = 0x30 ∷ 1 ∷ 2 ∷ 3 ∷ 4 ∷ 5 ∷ 6 ∷ 7 ∷ []

abbrev board_two : List ℕ
board_two = 0x31 ∷ 1 ∷ 2 ∷ 3 ∷ 4 ∷ 5 ∷ 6 ∷ 7 ∷ []

named_adds : run_entries false (of_board board_one one) 0 (replicate 512 0xFF) (writes [] ∷ [])
    ≡ Names 3 0x412 board_one ∷ Opens 1 ∷ Ends 1 ∷ []
unfolding lay
named_adds = refl

-- a run of reads adds nothing, also where a torn tail stands
reads_add : text_added true (run_entries true one 1 (replicate 512 0) (reads 0x08000000 4 ∷ []))
    ≡ []
unfolding lay
reads_add = refl

-- a page that is to hold 00, and one that is to be erased
written_adds : run_entries true one 0 (replicate 256 0xFF ++ replicate 256 0)
    (writes ((0x08000001, 0) ∷ []) ∷ [])
    ≡ Opens 1 ∷ Keeps 0 (replicate 256 0xFF) ∷ Erases 0 ∷ Programs 0 ∷ Ends 1 ∷ []
unfolding frames_of used_length lay
written_adds = refl

-- a segment undone, of which one page stands as it was
abbrev kept_one : Kept
kept_one = record { page = 1; bytes = replicate 256 0; line = 3; at = 0 }

abbrev kept_none : Kept
kept_none = record { page = 0; bytes = replicate 256 0xFF; line = 4; at = 0 }

entries_undone : undo_entries one 1
    (record { pages = kept_one ∷ kept_none ∷ []; stage = Open (Some (Erase 1)) } ∷ [])
    (replicate 512 0xFF)
    ≡ Erases 1 ∷ Programs 1 ∷ Undoes 1 ∷ []
unfolding frames_of used_length
entries_undone = refl

-- the page of the intent is written before any other, also where it reads as it was;
-- without an intent it is left
abbrev both_kept : List Kept
both_kept = kept_none ∷ kept_one ∷ []

work_first : undo_entries one 1 (record { pages = both_kept; stage = Open (Some (Erase 1)) } ∷ [])
    (replicate 512 0)
    ≡ Erases 1 ∷ Programs 1 ∷ Erases 0 ∷ Undoes 1 ∷ []
unfolding frames_of used_length
work_first = refl

work_that_reads_right :
    undo_entries one 1 (record { pages = both_kept; stage = Returning (Program 1) } ∷ [])
    (replicate 256 0xFF ++ replicate 256 0)
    ≡ Erases 1 ∷ Programs 1 ∷ Undoes 1 ∷ []
unfolding frames_of used_length
work_that_reads_right = refl

no_work : undo_entries one 1 (record { pages = both_kept; stage = Ended } ∷ [])
    (replicate 256 0xFF ++ replicate 256 0) ≡ Undoes 1 ∷ []
unfolding frames_of used_length
no_work = refl

-- what is refused
abbrev device : Device
device = record {
  chip = small;
  version = 0x22;
  codes = 0 ∷ 2 ∷ 0x11 ∷ 0x31 ∷ 0x43 ∷ [];
  flash = zeros;
  owed = [];
  phase = Fresh;
}

abbrev other_kind : ChipData
other_kind = chip_of 0x412 0x08000000 (4 ∷ 4 ∷ []) Extended 0xFF

abbrev empty : StateData
empty = record { header = None; stack = [] }

outside : run_refusal (good empty) device (small ∷ [])
    (writes ((0x08000000, 1) ∷ []) ∷ verifies ((0x08000008, 1) ∷ []) ∷ []) ≡ Some faults.OutOfFlash
unfolding lay
outside = refl

no_erase_first :
    run_refusal (good empty) device (other_kind ∷ []) (writes ((0x07FFFFFF, 1) ∷ []) ∷ [])
    ≡ Some faults.NoErase
unfolding lay
no_erase_first = refl

reads_need_no_erase : run_refusal (good empty) device (other_kind ∷ []) (reads 0x08000000 8 ∷ [])
    ≡ None
reads_need_no_erase = refl

nothing_anywhere : run_refusal (good empty) device (small ∷ []) (reads 7 0 ∷ []) ≡ None
nothing_anywhere = refl

bad_first : run_refusal (bad 2) device [] (writes ((0x07FFFFFF, 1) ∷ []) ∷ [])
    ≡ Some (faults.BadJournal 2)
unfolding lay
bad_first = refl

abbrev one_segment : StateData
one_segment = record {
  header = Some (record { version = 1; id = 0x412; unique = []; line = 1 });
  stack = record { pages = []; stage = Ended } ∷ [];
}

unknown : undo_refusal (good one_segment) [] ≡ Some (faults.UnknownChip 0x412)
unknown = refl

misfit : undo_refusal (good (record one_segment {
  stack = record {
    pages = record { page = 0; bytes = 255 ∷ []; line = 3; at = 0 } ∷ [];
    stage = Open None;
  } ∷ [];
})) (small ∷ []) ≡ Some (faults.BadJournal 3)
misfit = refl

nothing_refused : undo_refusal
    (good (record {
      header = Some (record { version = 1; id = 0x999; unique = []; line = 1 });
      stack = [];
    })) [] ≡ None
nothing_refused = refl

misfit_codes_first : undo_misfit other_kind 0x999 device ≡ Some faults.NoErase
misfit_codes_first = refl

misfit_id : undo_misfit small 0x999 device ≡ Some faults.OtherDevice
misfit_id = refl

takes_all : (taken_count 0 3 ≡ 3) × (taken_count 7 3 ≡ 3) × (taken_count 2 3 ≡ 2)
    × (taken_count 0 0 ≡ 0)
takes_all = (refl, refl, refl, refl)

-- What a run adds is read back as a finished segment that keeps the flash before it; and what
-- undoing it adds then, as none.
abbrev added : List ℕ
added = text_added false (run_entries false small 0 zeros middle)

reads_back : (depth_at added ≡ 1) × (is_unfinished_at added ≡ false)
    × (flashes_before_segments small (state_at added).stack after_middle ≡ zeros ∷ [])
unfolding digits encode_with hex_on_literals frames_of lay
reads_back = (refl, refl, refl)

abbrev taken_off : List ℕ
taken_off = added ++ text_added false (undo_entries small 1 (state_at added).stack after_middle)

is_off : (journal_of taken_off ≡ good (state_at taken_off)) × (depth_at taken_off ≡ 0)
unfolding digits encode_with hex_on_literals frames_of lay
is_off = (refl, refl)

-- behind a torn tail the first line is made void
torn_added : text_added true (run_entries true small 1 after_middle middle)
    ≡ codes "!" ++ 10 ∷ codes "open 2" ++ 10 ∷ codes "end 2" ++ 10 ∷ []
unfolding digits encode_with lay
torn_added = refl

-- a chip of 258 pages of a byte each: page 257 is kept before page 1 is
-- erased, and isn't kept again
abbrev many : ChipData
many = chip_of 0xA02 0x08000000 (replicate 258 1) Extended 0xFF

companion_first : run_entries false many 0 (replicate 258 0) (erases (1 ∷ []) ∷ [])
    ≡ Names 2 0xA02 [] ∷ Opens 1 ∷ Keeps 257 (0 ∷ []) ∷ Keeps 1 (0 ∷ []) ∷ Erases 1 ∷ Ends 1 ∷ []
unfolding frames_of lay
companion_first = refl

companion_once : run_entries true many 0 (replicate 258 0) (erases (257 ∷ 1 ∷ []) ∷ [])
    ≡ Opens 1 ∷ Keeps 257 (0 ∷ []) ∷ Keeps 1 (0 ∷ []) ∷ Erases 1 ∷ Erases 257 ∷ Ends 1 ∷ []
unfolding frames_of lay
companion_once = refl

companion_alone : run_entries true many 0 (replicate 258 0) (erases (257 ∷ []) ∷ [])
    ≡ Opens 1 ∷ Keeps 257 (0 ∷ []) ∷ Erases 257 ∷ Ends 1 ∷ []
unfolding frames_of lay
companion_alone = refl

-- it isn't counted
companion_count : answers_of many 0 (replicate 258 0) (erases (1 ∷ []) ∷ [])
    ≡ Ok (was_erased 1 1 ∷ [])
unfolding lay
companion_count = refl

-- a journal of version 1 is none of such a chip, nor one that keeps page 1 without page
-- 257; the least line is told
abbrev header_of_version : ℕ → JournalHeader
header_of_version version = record { version = version; id = 0xA02; unique = []; line = 1 }

abbrev page_one : Kept
page_one = record { page = 1; bytes = 0 ∷ []; line = 3; at = 0 }

abbrev page_257 : Kept
page_257 = record { page = 257; bytes = 0 ∷ []; line = 4; at = 0 }

abbrev journal_with : ℕ → List Kept → JournalData
journal_with version pages = good (record {
  header = Some (header_of_version version);
  stack = record { pages = pages; stage = Open None } ∷ [];
})

old_version : undo_refusal (journal_with 1 []) (many ∷ []) ≡ Some (faults.BadJournal 1)
old_version = refl

old_version_first : undo_refusal (journal_with 1 (page_one ∷ [])) (many ∷ [])
    ≡ Some (faults.BadJournal 1)
old_version_first = refl

-- both are at work where page 1 is: they are written before any other, though they read as they
-- were; once page 257 is to be erased, page 1 is done
abbrev paired : Intent → List SegmentData
paired intent = record { pages = page_257 ∷ page_one ∷ []; stage = Open (Some intent) } ∷ []

both_at_work : undo_entries many 1 (paired (Erase 1)) (replicate 258 0)
    ≡ Erases 1 ∷ Erases 257 ∷ Undoes 1 ∷ []
unfolding frames_of
both_at_work = refl

both_behind_frames : undo_entries many 1 (paired (Program 1)) (replicate 258 0)
    ≡ Erases 1 ∷ Erases 257 ∷ Undoes 1 ∷ []
unfolding frames_of
both_behind_frames = refl

one_at_work : undo_entries many 1 (paired (Erase 257)) (replicate 258 0)
    ≡ Erases 257 ∷ Undoes 1 ∷ []
unfolding frames_of
one_at_work = refl

alone_is_misfit : undo_refusal (journal_with 2 (page_one ∷ [])) (many ∷ [])
    ≡ Some (faults.BadJournal 3)
alone_is_misfit = refl

both_fit : undo_refusal (journal_with 2 (page_one ∷ page_257 ∷ [])) (many ∷ []) ≡ None
both_fit = refl

-- on a chip of 256 pages or fewer a journal of version 1 goes on, and page 1 has no companion
old_version_fits : undo_refusal (good (record {
  header = Some (record { version = 1; id = 0x412; unique = []; line = 1 });
  stack = record { pages = []; stage = Open None } ∷ [];
})) (small ∷ []) ≡ None
old_version_fits = refl

-- A journal of another board is refused by an undo, by its header alone, before its pages are
-- looked at; the same board's isn't, nor one of version 2 whatever the device told.
abbrev journal_of_board : ℕ → List ℕ → Stage → JournalData
journal_of_board version unique stage = good (record {
  header = Some (record { version = version; id = 0x412; unique = unique; line = 1 });
  stack = record {
    pages = record { page = 0; bytes = 255 ∷ []; line = 3; at = 0 } ∷ [];
    stage = stage;
  } ∷ [];
})

other_board : undo_refusal (journal_of_board 3 board_one (Open None))
    (of_board board_two small ∷ []) ≡ Some faults.OtherBoard
other_board = refl

untold_board : undo_refusal (journal_of_board 3 board_one (Open None)) (small ∷ [])
    ≡ Some faults.OtherBoard
untold_board = refl

own_board : undo_refusal (journal_of_board 3 board_one (Open None))
    (of_board board_one small ∷ []) ≡ Some (faults.BadJournal 3)
own_board = refl

unnamed_board : undo_refusal (journal_of_board 2 [] (Open None)) (of_board board_two small ∷ [])
    ≡ Some (faults.BadJournal 3)
unnamed_board = refl

-- a run refuses it too
other_board_run : run_refusal (journal_of_board 3 board_one Ended)
    (record device { chip = of_board board_two small }) (of_board board_two small ∷ [])
    (reads 0x08000000 1 ∷ []) ≡ Some faults.OtherBoard
other_board_run = refl
