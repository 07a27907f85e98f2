use Rattle.stm_journal.proofs.Sound.{journal-is-sound}
use Rattle.stm_journal.proofs.laws.a_journal_is_sound.Goals as goal

pub returns : goal.returns
returns c = journal-is-sound
