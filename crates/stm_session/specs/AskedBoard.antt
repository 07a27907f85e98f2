-- What `ask_board` promises: on any line, and of a device that follows the model.
use Rattle.std.specs.Prelude.{◌≡◌, ℕ, true, false, List, Some, Result, IfErr, IfOk}
use Rattle.stm_wire.specs.Chip.{ChipData}
use Rattle.stm_wire.specs.Dialogue.{GoesOn}
use Rattle.stm_wire.specs.Parts.{AreFew}
use Rattle.stm_wire.specs.Rig.{RigState}
use Rattle.stm_journal.specs.Calls.{AreFetches, IsUntouched}
use Rattle.stm_journal.specs.Journals.{journal_of}
use Rattle.stm_session.specs.declared.asking_board.Board.{Board}
use Rattle.stm_session.specs.declared.fault.Fault.{Fault}
use Rattle.stm_session.specs.AskingBoard.{AnswersInOrder, AskingStops, AsksForBoard, most_of_board}
use Rattle.stm_session.specs.Fault.{HasSessionCause}
use Rattle.stm_session.specs.Moments.{IsSafe}
use Rattle.stm_session.specs.Refusal.{RefusesUnsent}
use Rattle.stm_session.specs.ToldBoard.{AsksFinished, AsksUnfinished, NamesKind}
use Rattle.stm_session.specs.Undoable.{Undoable, is_unfinished_at}
use Rattle.stm_session.specs.Unasked.{asking_refusal}
use Rattle.stm_session.specs.Unwritten.{AppendsNothing}

-- A device is asked which board it is: nothing is appended, few calls are made, and in this order;
-- a journal that is bad, or is unfinished and fits no board, is refused before a byte is sent; and
-- of a device that follows the model, by whether its journal is finished, what that leaves.
pub record AsksWhich (table : List ChipData) (old new : RigState) (asked : Result Board Fault)
    : Type 0 where
  pub unwritten : GoesOn AppendsNothing old.calls new.calls
  pub cause : HasSessionCause old new asked
  pub few : GoesOn (AreFew most_of_board) old.calls new.calls
  pub order : IfOk asked (λ board. AsksForBoard table old (λ way torn.
      AnswersInOrder table board way torn old new))
  pub stops : IfErr asked (AskingStops table old new)
  -- what is refused before a byte is sent, of any device
  pub refused : old.is_honest → (refusal : Fault)
      → asking_refusal (journal_of old.journal) table ≡ Some refusal
      → RefusesUnsent (IsUntouched old) refusal old new asked
  pub refused_calls : old.is_honest → (refusal : Fault)
      → asking_refusal (journal_of old.journal) table ≡ Some refusal
      → GoesOn AreFetches old.calls new.calls
  pub finished : old.is_honest → is_unfinished_at old.journal ≡ false
      → IsSafe old.device → AsksFinished table old new asked
  pub unfinished : old.is_honest → is_unfinished_at old.journal ≡ true
      → (flashes : List (List ℕ)) → Undoable flashes old.device old.journal
      → NamesKind table old.device.chip → AsksUnfinished table flashes old new asked
