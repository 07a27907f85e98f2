use Rattle.stm_session.proofs.CanBeUndone.{reset_is_undoable}
use Rattle.stm_session.proofs.laws.a_reset_keeps_what_can_be_undone.Goals as goal

pub returns : goal.returns
returns c flashes d journal u = reset_is_undoable c.harmless_is_kept.ensures.reset flashes d journal u
