use Rattle.stm_wire.proofs.Closed.{harmless_fed, harmless_reset, harmless_loses}
use Rattle.stm_wire.proofs.Stopped.{fewer}
use Rattle.stm_wire.proofs.harmless.harmless_is_kept.Goals as goal

pub returns-clause-fed : goal.returns-clause-fed
returns-clause-fed c old new byte pages h f = harmless_fed byte pages old new h f

pub returns-clause-reset : goal.returns-clause-reset
returns-clause-reset c d byte pages h = harmless_reset byte pages d h

pub returns-clause-lost : goal.returns-clause-lost
returns-clause-lost c old new byte pages h l = harmless_loses byte pages old new h l

pub returns-clause-more_pages : goal.returns-clause-more_pages
returns-clause-more_pages c d byte less more f h = fewer d byte more less f h
