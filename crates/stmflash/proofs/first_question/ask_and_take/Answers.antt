use Rattle.stmflash.proofs.first_question.ask_and_take.Goals as goal

pub returns : goal.returns
returns g c = c.options_at.ensures _ c.in_ok-keep_place.ensures.journal c.in_ok-keep_place.ensures.board
