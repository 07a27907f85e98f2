use Rattle.stm_watch.proofs.Existing.{heard-of}
use Rattle.stm_watch.proofs.laws.watched_is_heard_of.Goals as goal

pub returns : goal.returns
returns c = heard-of
