use Rattle.stm_session.proofs.ReadRuns.{reads_unrefused}
use Rattle.stm_session.proofs.laws.reads_in_the_flash_are_not_refused.Goals as goal

pub returns : goal.returns
returns c journal d table chip commands all opened held inside = reads_unrefused c.a_journal_is_sound.ensures journal d table chip commands all opened held inside
