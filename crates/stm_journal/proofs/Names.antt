-- The names of the definitions, for proofs of this crate and of those above.
pub use Rattle.stm_journal.specs.Added.{BeginningsLeaveEither, EntriesLeaveEither, HasAdded, HasOpenedSegment}
pub use Rattle.stm_journal.specs.Beginnings.{AllAllowed, AllPrintable, BeginningsAreGood, EntriesLead}
pub use Rattle.stm_journal.specs.Blank.{blank}
pub use Rattle.stm_journal.specs.Calls.{AddsBytes, Appends, AppendsInPart, AppendsOnce, AreFetches, FetchesPage, HasJournalCause, InText, IsFaultOf, IsUntouched, KeepsDevice, Loads}
pub use Rattle.stm_journal.specs.Entries.{are_upper_digits, behind, board_at, board_header_of, board_of_fields, decimal_of, device_text, entry_of, header_of, header_word, hex_bytes_of, id_digits}
pub use Rattle.stm_journal.specs.Entries.{id_of, is_upper_digit, kept_entry_of, line_of, line_text, number_of_pair, numbered_entry_of, page_at, page_of_fields, unique_id_of, with_digit, worded}
pub use Rattle.stm_journal.specs.Fits.{AllFit, AllHeld, AllKeptFit, fits_chip}
pub use Rattle.stm_journal.specs.FlashLaws.{ChangesKeepFlashes, HeldIsBefore, KeepingKeepsFlashes}
pub use Rattle.stm_journal.specs.Flashes.{flashes_before_segments, FlashesAreThose, with_kept_pages}
pub use Rattle.stm_journal.specs.Forget.{after_summary, forget_journal}
pub use Rattle.stm_journal.specs.GreetingCalls.{allows_greeting, EntriesEndGreetings, GreetingsCountAsNothing, loaded_greeted}
pub use Rattle.stm_journal.specs.Greetings.{ends_greeted, greeting, greeting_line, is_greeted, may_greet}
pub use Rattle.stm_journal.specs.InMemory.{filled, forget_entry, forget_kept, forget_segment, forget_state}
pub use Rattle.stm_journal.specs.Journals.{added_bytes, after_line, after_said, bad, begin_entries, capped, empty_loaded, first_entries, good, IsHeaderOf, IsLoaded, IsPrintable, journal_of}
pub use Rattle.stm_journal.specs.Journals.{JournalData, LeavesLoaded, LeavesUnbegun, Loaded, loaded_after, mark, NamesThis, past_entry, past_mark, Prepares, read_line, Reading, reading_of, start}
pub use Rattle.stm_journal.specs.Journals.{version_for}
pub use Rattle.stm_journal.specs.KeptPlaces.{entries_of, IsPlaceIn, kept_count, kept_entry, kept_place, page_place, place_of}
pub use Rattle.stm_journal.specs.Loading.{BadLine, Fetches, HasReadJournal, IsLoadFault, IsRead, LoadingStopsAt, PassesLine, TakesBytes}
pub use Rattle.stm_journal.specs.Marks.{AreMarked}
pub use Rattle.stm_journal.specs.Newest.{HasBegun, HasEnded, HasIntended, HasKept, HasUndone, KeepsSame, newest_pages, next_page, pages_of_newest, pages_of_segments}
pub use Rattle.stm_journal.specs.PageFetching.{Brings, FetchesBytes, Looks, LooksInVain, SaysAt}
pub use Rattle.stm_journal.specs.Places.{AllPlaced, cut, IsPlaced, PagesPlaced}
pub use Rattle.stm_journal.specs.States.{after_entry, AllEnded, AllOnce, allows, board_of, depth, empty_state, ended_segment, EndedBelow, fresh_segment, header_board, intending, intent_at, intent_of}
pub use Rattle.stm_journal.specs.States.{intent_page, IntentIsKept, is_ended_stage, is_open_stage, is_other_board, is_unfinished, IsSound, keeping, keeps, kept_at, kept_in, LacksPage, may_keep}
pub use Rattle.stm_journal.specs.States.{names_other, names_other_board, newest_has, newest_intent, newest_is_open, newest_keeps, newest_may_keep, on_newest, PagesOnce, segment_of, SegmentData}
pub use Rattle.stm_journal.specs.States.{stack_of, stage_with, StateData}
pub use Rattle.stm_journal.specs.Summary.{extended, greets_by, long_at, long_page, page_with, said_by, Summary, summary_of, void_by}
pub use Rattle.stm_journal.specs.Text.{HasNoLF, in_front, is_void, Text, text_of}
pub use Rattle.stm_journal.specs.declared.entry.Entry.{Entry}
pub use Rattle.stm_journal.specs.declared.fault.JournalFault.{JournalFault}
pub use Rattle.stm_journal.specs.declared.header.JournalHeader.{JournalHeader}
pub use Rattle.stm_journal.specs.declared.kept.Kept.{Kept}
pub use Rattle.stm_journal.specs.declared.kept.PagePlace.{PagePlace}
pub use Rattle.stm_journal.specs.declared.stage.Stage.{Stage}
