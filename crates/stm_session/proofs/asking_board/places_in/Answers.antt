use Rattle.std.proofs.Common.{sym, ◌∙◌, ap}
use Rattle.stm_session.proofs.Names.{places_of}
use Rattle.stm_session.proofs.Openings.{has_chip, lacks_chip}
use Rattle.stm_session.proofs.asking_board.places_in.Goals as goal

pub returns-in-Some-clause-places : goal.returns-in-Some-clause-places
returns-in-Some-clause-places c = c.places.ensures ∙ sym (ap places_of (has_chip c.args.table.now c.args.id c.in-Some.chip.now c.in-Some.ensures))

pub returns-in-None-clause-places : goal.returns-in-None-clause-places
returns-in-None-clause-places c = c.none.ensures ∙ sym (ap places_of (lacks_chip c.args.table.now c.args.id c.in-None.ensures))
