use Rattle.stm_session.proofs.Names.{risked_pages}
use Rattle.stm_histories.specs.Unpowered.{SpoilsOnly}
use Rattle.stm_histories.proofs.unpowered.spoil.Given as goal

abbrev pub invariant-loop-page : goal.invariant-loop-page
invariant-loop-page l = SpoilsOnly (risked_pages l.journal.state) l.fn.memory l.memory
