-- The names of the definitions, for proofs of this crate and of those above.
pub use Rattle.stm_session.specs.Answers.{agreeing, agrees, answers_of, differing_below, first_difference, FirstDifferenceIsFirst, has_byte, in_front_of, NoDifferenceAgrees, outcome_data, outcome_of}
pub use Rattle.stm_session.specs.Answers.{OutcomeData, outcomes_in, pages_that_differ, segments_of_command, verified_or, was_erased, was_read, was_verified, was_written}
pub use Rattle.stm_session.specs.AskedBoard.{AsksWhich}
pub use Rattle.stm_session.specs.Asking.{Asks, IsStill}
pub use Rattle.stm_session.specs.AskingBoard.{AskingStops, AsksBoard, AsksInPart, AsksSize, AsksUnique, came_in, finished, IsAnswered, places_in, places_of, size_told, unfinished, unique_told}
pub use Rattle.stm_session.specs.Boards.{IsForeign, IsOfItsBoard, OnlyAsks}
pub use Rattle.stm_session.specs.Came.{AgreeInBlocks, AllCameAgree, CameFor, ComeInBlocks, FaultTells, OneDiffers, TellsWhatCame}
pub use Rattle.stm_session.specs.ChangeOrder.{AreAllTurned, AreBegunTurns, AreBothSaved, AreTurned, begins, ends, IsChanged, IsChangedUnless, IsCompanionSaved, IsOneSegment, IsPageChanged, IsPageTurn}
pub use Rattle.stm_session.specs.ChangeOrder.{IsSaved, IsSavedWith, IsSegmentBegun, IsTurnOf, Keeping, KeepsErased, none, turns}
pub use Rattle.stm_session.specs.Changing.{AreReadsIf, both_entries, change_entries, HasTurned, reads_if, ReadsIf, save_entries}
pub use Rattle.stm_session.specs.Closing.{closing, closing_steps, IsClosedInPart, IsLookedAgain, names}
pub use Rattle.stm_session.specs.CommandList.{DoesCommands}
pub use Rattle.stm_session.specs.Confirming.{HasAgain, TellsAgain}
pub use Rattle.stm_session.specs.Contents.{command_of, content, IsGiven, IsMade, MayTouch}
pub use Rattle.stm_session.specs.Deeds.{AllSuit, DoesDeeds, flash_with, HasDone, HasDoneAll, IsRewrittenBehind, lines_of_deed, MayDo, MayDoAll, rewrite_deeds, step_of_deed, Suits, write_deeds}
pub use Rattle.stm_session.specs.Events.{AllLead, end_of, Event, Happening, identified, identify_stopped, info_stopped, informed, kept, Knows, Leads, left_refused, lost_owed, lost_power, now_of}
pub use Rattle.stm_session.specs.Events.{OutcomesAreTheRun, ran, refusal_stopped, run_stopped, Stops, themselves, told_by, undid, undo_stopped, unprotect_stopped, unprotected, was_reset, World}
pub use Rattle.stm_session.specs.Fault.{Cause, cause_of, fault_of, fault_of_journal, HasSessionCause, IsJournalOrMemory, IsLaterRefusal, IsOfLine, IsOfTalking, IsOutside, IsOutsideFault, IsRefusal}
pub use Rattle.stm_session.specs.Fault.{IsRefusedLater, IsUnheard, KeepsFileCount, KeepsFileCountBy, KeepsLineCount, KeepsLineCountBy, of_call, of_command, of_file, of_line, of_memory, of_protocol}
pub use Rattle.stm_session.specs.Fault.{of_refusal, of_session, RisesBy, RisesFor}
pub use Rattle.stm_session.specs.Fresh.{byte_of, contact_way, EndsWell, IsReset, limit_of, Settles, settling_limit, settling_way, Way}
pub use Rattle.stm_session.specs.Greeting.{AmidGreeting, FreshIsGreetable, greets, greets_loaded, GreetsBy, GreetsInPart, GreetsInPartBy, GreetsOnce, GreetsSafely, is_doubtful, is_erase, is_extended}
pub use Rattle.stm_session.specs.Greeting.{is_long_list, is_wide, IsConnectable, IsGreetable, IsGreetableAs, lists_wide, LossIsGreetable, ReadsFirst, StoppedIsGreetable, wants_greeting, wants_loaded}
pub use Rattle.stm_session.specs.Greeting.{WritesFirst}
pub use Rattle.stm_session.specs.Headline.{AllIsUndone, EachCanFollow, grown, Headline, Holds, IsHonestAfter, IsStart, LeavesAlone, oldest_after, oldest_of, oldest_start, RunHolds, RunLeaves}
pub use Rattle.stm_session.specs.Headline.{standing_in, starts_after, starts_of_run, UndoHolds, UndoLeaves, WritesWhole}
pub use Rattle.stm_session.specs.Information.{Informs}
pub use Rattle.stm_session.specs.JournalDevice.{Meets, Strays}
pub use Rattle.stm_session.specs.Kept.{erasing, IsKept, IsOfNewest, KeepsFirst, kept_behind_lines, kept_behind_steps, looks, MaySend, MayTake, programming, PutsBack, PutsBackFrom, RunKeeps}
pub use Rattle.stm_session.specs.Kept.{RunStopsKept, undoing, UndoPutsBack, UndoStopsBack}
pub use Rattle.stm_session.specs.Leaving.{CanLeave, IsSettledSame, IsSettledThen, Leaves, LeftByFrame, LeftByLeaving}
pub use Rattle.stm_session.specs.Lines.{depth_at, differs_in, is_named_at, is_torn_at, keep_entries, opening_entries, page_entries, page_entries_below, program_entries, return_entries}
pub use Rattle.stm_session.specs.Lines.{rewrite_entries, run_entries, segment_entries, taken_entries, text_added, undo_entries, work_entries}
pub use Rattle.stm_session.specs.Meaning.{before_if, changes_of, command_data, CommandData, commands_in, flash_after, flash_after_all, flashes_before, is_change, verifies}
pub use Rattle.stm_session.specs.Moments.{BeginsNothing, IsSafe, IsUnbegun, SameMake}
pub use Rattle.stm_session.specs.OneCommand.{AmidOne, answer_on, command_lines, DoesCommand, flash_left, lines_if, TellsDifference}
pub use Rattle.stm_session.specs.Opening.{AreCommandsOf, IsCoherent, LoadsUnless, Opens, TellsItself}
pub use Rattle.stm_session.specs.Order.{acts_of, acts_of_steps, Adds, Are, AreCutShort, AreGivenBack, AreReadsOf, AreRewritten, Begin, BeginTold, DoesSteps, erase_steps, FaultEnds, Follows}
pub use Rattle.stm_session.specs.Order.{give_back_steps, IsAfter, IsGivenBack, IsInOrder, IsReadOf, IsRewritten, page_address, page_reads, program_steps, read_steps, ReadsBlock, return_steps}
pub use Rattle.stm_session.specs.Order.{rewrite_steps, Sends, so_far, Step, step_in, StepFailsBy, StopsBy, Tells, tells_behind, torn_behind, untold, write_step, write_steps}
pub use Rattle.stm_session.specs.Performs.{Performs}
pub use Rattle.stm_session.specs.PowerLoss.{AnyBytesAreLeft, FinishedLosesNothing, IntentIsAtRisk, LosesPower, OwedLossKeepsFlashes, PowerLossKeepsFlashes}
pub use Rattle.stm_session.specs.Promises.{IdentifyContract, InfoContract, RunContract, UndoContract}
pub use Rattle.stm_session.specs.Reaching.{asking_steps, AsksInOrder, confirm_steps, confirmed_at, confirming, id_turns, IsAsked, IsAsking, IsConfirmedInPart, IsConfirming, IsGet, IsGetId}
pub use Rattle.stm_session.specs.Reaching.{place_of_bytes, ReachesAndDoes, ReachesAndStops, ReachesInOrder, ReachesInPart, Session, SettlesFirst, SettlesThen, StepsOf}
pub use Rattle.stm_session.specs.Reading.{IsBlock, IsNextBlock, IsNotBehind, IsPageRest}
pub use Rattle.stm_session.specs.Refusal.{chip_with, device_refusals, first_of, first_refusal, fits_among, fits_as_kept, header_misfits, lacks_companion, least, least_with, lesser, line_refusal}
pub use Rattle.stm_session.specs.Refusal.{misfit_lines, misfit_lines_of, misfit_refusal, open_refusal, opening_refusal, pages_kept, refused_unless, Refuses, RefusesUnsent, segment_pages}
pub use Rattle.stm_session.specs.Refusal.{table_refusal, unsent_refusal}
pub use Rattle.stm_session.specs.Refusals.{can_erase, command_refusals, commands_refused, erase_code, image_fits, is_in_flash, lies_in_flash, run_refusal, undo_misfit, undo_refusal, undo_refusal_of}
pub use Rattle.stm_session.specs.ReturnedBytes.{bytes_of_pages, kept_bytes, segments_of}
pub use Rattle.stm_session.specs.RunOrder.{AreBegun, AreDoneInOrder, AreDoneSomehow, IsBegunBy, IsBegunIf, IsBegunTelling, IsDoneBy, IsDoneIf, IsDoneTelling, IsReading, OnlyReads, RunDoes}
pub use Rattle.stm_session.specs.RunOrder.{RunDoesInPart, RunsInOrder, RunStops, StopsTelling}
pub use Rattle.stm_session.specs.Running.{AreKindsOf, AreRead, bytes_at, bytes_of, bytes_read, is_reading, IsKindOf, RunsReads}
pub use Rattle.stm_session.specs.Runs.{AmidRun, answers_from, AreDone, flashes_with, run_text, RunFails, Runs, standing_commands}
pub use Rattle.stm_session.specs.Seen.{IsByteSeen, SparesPage}
pub use Rattle.stm_session.specs.SegmentUndo.{AmidSegmentUndo, give_back_lines, newest_at, taking_lines, UndoesSegment, with_pages}
pub use Rattle.stm_session.specs.Segments.{AmidCommand, Changes, Closes, HasOpened, IsClosing}
pub use Rattle.stm_session.specs.SegmentsUndo.{AmidNewest, AmidNewestBy, going_lines, undo_lines, UndoesBy, UndoesNewest}
pub use Rattle.stm_session.specs.Sending.{is_whole, is_whole_at, IsBegun, IsLeaving, leaves_whole, most_calls, most_of_closing, most_of_command, most_of_confirming, most_of_reaching, most_of_run}
pub use Rattle.stm_session.specs.Sending.{most_of_undo, PutsAtMost, SendsAsRun, SendsAsUndo}
pub use Rattle.stm_session.specs.Silence.{silent_line}
pub use Rattle.stm_session.specs.StepLaws.{StepLaws}
pub use Rattle.stm_session.specs.Steps.{AddsLines, AreIntents, Goes, IsSteady, IsUnder, KeepsFlashes, Stands, torn_after}
pub use Rattle.stm_session.specs.Told.{AreCalls, AreGivenBackTold, AreTakenTold, BeginTakingTold, behind_confirming, EndsWith, GivesBackTold, ToldBy, ToldIn, UndoStopsToldAs}
pub use Rattle.stm_session.specs.ToldBoard.{AsksFinished, AsksUnfinished, chip_of_board, cut_as_told, IsBoardOf, IsPartOf, size_at, size_of, ToldBoardIsTheDevices, unique_at, unique_of}
pub use Rattle.stm_session.specs.Unasked.{asking_refusal, begun_refusal, fits_fewer, is_never_told, names_no_board, told_length, unasked_refusal, unlisted_refusal}
pub use Rattle.stm_session.specs.UndoOrder.{AreAllUndone, AreSegmentsUndone, AreTakenAs, AreTakenWhole, AreUndoneInOrder, BeginTaking, elsewhere, ending_steps, EndsOtherwise, GivesBackInOrder}
pub use Rattle.stm_session.specs.UndoOrder.{IsSegmentUndone, misread, OrMisread, such, UndoDoes, UndoDoesInPart, UndoesInOrder, UndoStops, UndoStopsAs}
pub use Rattle.stm_session.specs.Undoable.{AllKeepCompanions, good_state, has_companion, HasVersion, is_unfinished_at, IsJournalOf, newest_kept, risked_pages, state_at, Undoable}
pub use Rattle.stm_session.specs.Undoes.{AmidUndo, byte_at_journal, flash_undone, IsElsewhere, IsFlashSettled, IsWithinLimit, risked_at, taken_count, undo_text, Undoes}
pub use Rattle.stm_session.specs.Unprotecting.{bad_refusal, FollowsUnprotect, IsUnprotected, IsUnprotecting, LeftByUnprotecting, unprotect_frame, unprotect_turns, UnprotectContract, WasUnprotected}
pub use Rattle.stm_session.specs.Unwritten.{AppendsNothing}
pub use Rattle.stm_session.specs.VerifiedWrite.{IsWrittenAndSeen, outcomes_seen, outcomes_told_by, WritesAndSees, WritesThen, written_then}
pub use Rattle.stm_session.specs.Work.{beside, kept_at_work, kept_of, pages_at_work, pages_of_intent, with_work}
pub use Rattle.stm_session.specs.declared.asking_board.Board.{Board}
pub use Rattle.stm_session.specs.declared.change.Change.{Change}
pub use Rattle.stm_session.specs.declared.command.Command.{Command}
pub use Rattle.stm_session.specs.declared.contact.Told.{Told}
pub use Rattle.stm_session.specs.declared.deed.Deed.{Deed}
pub use Rattle.stm_session.specs.declared.fault.Fault.{Fault}
pub use Rattle.stm_session.specs.declared.greeting.Greeting.{Greeting}
pub use Rattle.stm_session.specs.declared.information.Info.{Info}
pub use Rattle.stm_session.specs.declared.opening.Opened.{Opened}
pub use Rattle.stm_session.specs.declared.outcome.Outcome.{Outcome}
pub use Rattle.stm_session.specs.declared.reading.Block.{Block}
pub use Rattle.stm_session.specs.declared.returned.Returned.{Returned}
