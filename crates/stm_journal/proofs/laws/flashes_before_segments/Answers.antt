use Rattle.stm_journal.proofs.Flashing.{flashes_are_those}
use Rattle.stm_journal.proofs.laws.flashes_before_segments.Goals as goal

pub returns : goal.returns
returns c = flashes_are_those
