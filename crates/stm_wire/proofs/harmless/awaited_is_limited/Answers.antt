use Rattle.stm_wire.proofs.Closed.{awaits_no_more}
use Rattle.stm_wire.proofs.Ending.{awaited_limited, more_suffice}
use Rattle.stm_wire.proofs.harmless.awaited_is_limited.Goals as goal

pub returns-clause-limited : goal.returns-clause-limited
returns-clause-limited c = awaited_limited

pub returns-clause-more : goal.returns-clause-more
returns-clause-more c = more_suffice

pub returns-clause-fed : goal.returns-clause-fed
returns-clause-fed c = awaits_no_more
