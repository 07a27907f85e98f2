-- The names of the definitions, for proofs of this crate and of those above.
pub use Rattle.stm_wire.specs.Awaited.{AwaitedIsLimited, Awaits, AwaitsIn, FedAwaitsNoMore, IsEnough, MoreSuffice, most_awaited, most_for, most_under}
unfoldable pub use Rattle.stm_wire.specs.Awaited.{IsRefusedIn}
pub use Rattle.stm_wire.specs.Call.{Append, Call, Fetch, Get, Put}
pub use Rattle.stm_wire.specs.Chip.{are_places, chip_of, ChipData, erased_byte, erased_page, fits_inside, flash_size, is_inside, is_outside, is_size_place, is_unique_place, IsChip, IsErasedAt}
pub use Rattle.stm_wire.specs.Chip.{IsErasedByte, IsPageSize, of_board, page_count, page_limit, page_of, page_offset, page_size, with_bytes, with_page}
pub use Rattle.stm_wire.specs.Command.{CanErase, CanGo, CanProtect, CanRead, CanTell, CanWrite, Does, HasRead, HasWritten, IsOkOrLine, LeavesFirst, OwesFirst, owing, TakesAddress, told_bytes}
pub use Rattle.stm_wire.specs.Command.{with_pages_erased, with_rest}
pub use Rattle.stm_wire.specs.Cut.{cut_to, EndInside, first_pages}
unfoldable pub use Rattle.stm_wire.specs.Cut.{pages_within}
pub use Rattle.stm_wire.specs.Device.{Connected, Device, Fed, Feeds, Fresh, Gone, is_protection, IsDevice, IsLoose, IsOpenPhase, IsReady, IsReadyPhase, IsReadyRest, IsSettled, ListsKind, LosesOwed}
pub use Rattle.stm_wire.specs.Device.{Phase, phase_after, Receives, reply_of, reset, Takes}
pub use Rattle.stm_wire.specs.Dialogue.{Acknowledged, Adds, AreLineCalls, call_of, calls_of, Expects, FailsBy, gets_of, GoesOn, IsBrokenOff, Learns, learns, puts_of, Says, says, sent_bytes}
pub use Rattle.stm_wire.specs.Dialogue.{step_turns, Turn}
pub use Rattle.stm_wire.specs.Effect.{Change, change_of, Effect, erase_change, EraseAll, erased_pages, ErasePages, extended_change, Nothing, Stores, Write, write_change}
pub use Rattle.stm_wire.specs.Exchange.{after_address, all_exist, all_verdict, at_end, command_verdict, complement, done_if, erase_verdict, extended_verdict, is_listed, IsOpen, number_of}
pub use Rattle.stm_wire.specs.Exchange.{pages_verdict, pair_of, read_verdict, two_byte_numbers, verdict, write_verdict, xor}
pub use Rattle.stm_wire.specs.Frames.{address_bytes, address_turns, command, erase_frame, erase_turns, get_id_turns, get_turns, go_frame, go_turns, protect_turns, read_frame, read_turns}
pub use Rattle.stm_wire.specs.Frames.{with_checksum, write_frame, write_turns}
pub use Rattle.stm_wire.specs.Greeting.{AwaitsUnder, FreshMayBeGreeted, HarmlessWithin, IsGreetedSafely, IsGreeting, LossMayBeGreeted, MayBeGreeted, MorePagesMayBeGreeted, most_greeted, most_left}
pub use Rattle.stm_wire.specs.Greeting.{ResetMayBeGreeted, SendingMayBeGreeted, StoppedMayBeGreeted}
pub use Rattle.stm_wire.specs.Harmless.{Disturbance, Feed, Harmless, IsListening, IsUnharmed, Reaches, Reset, SameOutside}
pub use Rattle.stm_wire.specs.Intents.{InPage, intended_pages, settling_byte}
pub use Rattle.stm_wire.specs.Moments.{FedAndTaken, LeavesOnly, LeftBySending, PartlyFed}
pub use Rattle.stm_wire.specs.Parts.{AreFew, IsPart, IsSession}
pub use Rattle.stm_wire.specs.PowerLoss.{powered_again}
pub use Rattle.stm_wire.specs.Protection.{protection_code}
pub use Rattle.stm_wire.specs.Refused.{answer_byte, answered_turns, AsksSafely, at_address, at_code, at_count, IsRefusedRead, IsTold, LeavesAnswer, read_head, ReadsOrIsRefused, refusable_frame}
pub use Rattle.stm_wire.specs.Refused.{RefusableReadsChangeNothing, refused_turns}
pub use Rattle.stm_wire.specs.Reply.{ack, answer, commands_answer, id_answer, nack, read_answer, reply, reply_to, step_reply}
pub use Rattle.stm_wire.specs.Rig.{AppendsHonestly, Elapses, entry_of_get, FetchesHonestly, GetsFirst, GetsHonestly, HasCause, IsModel, LeftByAppend, LeftByGet, LeftByPut, PutsAside, PutsHonestly}
pub use Rattle.stm_wire.specs.Rig.{Records, RecordsAppend, RigState, Rises, StaysHonest, TellsBehind, waited}
pub use Rattle.stm_wire.specs.Sending.{BreaksOff, IsHeldToEnd, KeepsCount, PartSentHonestly, SentHonestly}
pub use Rattle.stm_wire.specs.SentList.{erase, IsFrame, IsHeadOfRead, settling_run, tells, write}
pub use Rattle.stm_wire.specs.Settling.{HasLineCause, IsGoing, IsSettling, Keeps, KeepsSettling, LeadsTo, LeftBySettling, LeftWith, PutsAll, PutsPart, Settles, SettlesWithin, Speaks, SpeaksBatches}
pub use Rattle.stm_wire.specs.Settling.{Talks, with_nothing_owed}
pub use Rattle.stm_wire.specs.SettlingCalls.{answered, answered_on, answered_once, AreBatches, AreUnrefused, batch_size, ending, EndsByteByByte, EndsGarbled, EndsInBatches, EndsQuiet, EndsSettled}
pub use Rattle.stm_wire.specs.SettlingCalls.{EndsSingly, EndsUnder, FailsAs, Floods, has_nack, HearsNoNack, IsAnswer, IsAnswerTo, IsBatch, IsBatched, IsConnected, IsDrained, IsGarbled, IsNoAck}
pub use Rattle.stm_wire.specs.SettlingCalls.{IsPast, IsReconnected, IsRefused, IsUnanswered, IsUnconfirmed, IsUnconnected, IsUnended, IsUnrefused, more, Never, none, reconnected, refused, singly}
pub use Rattle.stm_wire.specs.SettlingCalls.{taken, unacknowledged, unconfirmed, unrefused, used_up}
pub use Rattle.stm_wire.specs.Stopped.{AskingChangesNothing, asks, erases, FreshIsHarmless, get, in_erase, in_get, in_get_id, in_read, in_ready, in_write, IsFrameUnder, IsQuestion, IsStopped}
pub use Rattle.stm_wire.specs.Stopped.{IsStoppedSafely, LossStaysHarmless, ResetStaysHarmless, SameOutsideNoneIsSame, SendingIsHarmless, StoppedAwaitsFew, StoppedIsHarmless, writes}
pub use Rattle.stm_wire.specs.Telling.{asks_size, asks_unique, has_size, has_unique, kib_bytes, readable_bytes, takes_at}
unfoldable pub use Rattle.stm_wire.specs.Telling.{can_read, is_readable}
pub use Rattle.stm_wire.specs.UniqueId.{is_unique_length, IsUniqueId}
pub use Rattle.stm_wire.specs.UniqueIdFields.{AreFields, filled_up}
pub use Rattle.stm_wire.specs.declared.chip.EraseKind.{EraseKind}
pub use Rattle.stm_wire.specs.declared.fault.RigFault.{RigFault}
pub use Rattle.stm_wire.specs.declared.fault.WireFault.{WireFault}
pub use Rattle.stm_wire.specs.declared.get_command.Commands.{Commands}
pub use Rattle.stm_wire.specs.declared.intent.Intent.{Intent}
pub use Rattle.stm_wire.specs.declared.places.BoardPlaces.{BoardPlaces}
pub use Rattle.stm_wire.specs.declared.places.UniquePlace.{UniquePlace}
pub use Rattle.stm_wire.specs.declared.protection.Protection.{Protection}
pub use Rattle.stm_wire.specs.declared.rig.Patience.{Patience}
pub use Rattle.stm_wire.specs.declared.rig.RigCall.{RigCall}
pub use Rattle.stm_wire.specs.declared.verdict.Verdict.{Verdict}
