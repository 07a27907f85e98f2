use Rattle.stm_session.proofs.PowerLosses.{any-bytes, finished-same, intent-risked, loss-keeps}
use Rattle.stm_session.proofs.laws.a_power_loss_keeps_what_can_be_undone.Goals as goal

pub returns-clause-undoable : goal.returns-clause-undoable
returns-clause-undoable c = loss-keeps c.changes_of_kept_pages_keep_the_flashes.ensures c.stopped_is_harmless.ensures.fresh

pub returns-clause-finished : goal.returns-clause-finished
returns-clause-finished c = finished-same c.pages_are_the_flash.ensures.same

pub returns-clause-intended : goal.returns-clause-intended
returns-clause-intended c = intent-risked c.a_journal_is_sound.ensures

pub returns-clause-any : goal.returns-clause-any
returns-clause-any c = any-bytes
