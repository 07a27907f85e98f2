use Rattle.stm_session.proofs.CanBeUndone.{empty_is_undoable, ready_is_safe}
use Rattle.stm_session.proofs.laws.a_ready_device_can_begin.Goals as goal

pub returns-clause-safe : goal.returns-clause-safe
returns-clause-safe c d is ready = ready_is_safe c.stopped_is_harmless.ensures.stopped c.stopped_is_harmless.ensures.fresh d is ready

pub returns-clause-undoable : goal.returns-clause-undoable
returns-clause-undoable c d is ready = empty_is_undoable d (ready_is_safe c.stopped_is_harmless.ensures.stopped c.stopped_is_harmless.ensures.fresh d is ready)

pub returns-clause-empty : goal.returns-clause-empty
returns-clause-empty c d safe = empty_is_undoable d safe
