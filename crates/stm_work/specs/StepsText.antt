-- The text that tells of the steps of one call.
use Rattle.std.specs.Prelude.{ℕ, List, [], ◌++◌, Option, Some, None}
use Rattle.stm_session.specs.declared.asking_board.Board.{Board}
use Rattle.stm_work.specs.declared.answer.Answer.{Answer}
use Rattle.stm_work.specs.declared.steps.Steps.{Steps}
use Rattle.stm_work.specs.Printing.{board_text_of, kept_text, answer_text, tried_text_of}

-- which board told an answer, where the device was asked
abbrev pub asked_text : Answer → Option Board → List ℕ
asked_text answer None = []
asked_text answer (Some board) = board_text_of answer board

-- how many segments stay, where the journal was kept
abbrev pub stays_text : Option ℕ → List ℕ
stays_text None = []
stays_text (Some count) = kept_text count

-- what the session answered, which board it was, how many such boards were tried, and what stays
abbrev pub steps_text : Steps → List ℕ
steps_text steps =
    answer_text steps.answer ++ asked_text steps.answer steps.board ++ tried_text_of steps.answer
    ++ stays_text steps.kept
