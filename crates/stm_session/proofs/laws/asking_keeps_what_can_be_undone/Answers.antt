use Rattle.stm_session.proofs.CanBeUndone.{finished_is_safe, unbegun_is_undoable}
use Rattle.stm_session.proofs.laws.asking_keeps_what_can_be_undone.Goals as goal

pub returns-clause-safe : goal.returns-clause-safe
returns-clause-safe c flashes d journal u finished = finished_is_safe flashes d journal u finished

pub returns-clause-undoable : goal.returns-clause-undoable
returns-clause-undoable c flashes old d journal u finished make flash safe = unbegun_is_undoable flashes old d journal u finished make flash safe
