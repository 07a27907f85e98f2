use Rattle.stm_session.proofs.Comparisons.{agrees_none}
use Rattle.stm_session.proofs.comparing.unnamed_places_agree.Goals as goal

pub returns-clause-before : goal.returns-clause-before
returns-clause-before c image address bytes next is within =
    agrees_none image address bytes ((c.laying_nothing_new.ensures image address bytes).0 (c.laying_keeps_places.ensures.before image address bytes next is within))

pub returns-clause-past : goal.returns-clause-past
returns-clause-past c image address bytes none = agrees_none image address bytes ((c.laying_nothing_new.ensures image address bytes).0 (c.laying_keeps_places.ensures.past image address bytes none))
