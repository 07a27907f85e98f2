use Rattle.stm_session.proofs.PowerLosses.{owed-keeps}
use Rattle.stm_session.proofs.laws.lost_bytes_keep_what_can_be_undone.Goals as goal

pub returns : goal.returns
returns c = owed-keeps c.harmless_is_kept.ensures.lost
