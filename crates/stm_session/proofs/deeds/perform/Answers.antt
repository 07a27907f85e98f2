use Rattle.stm_session.proofs.DeedRuns.{does_cut, done_all, done_more_of, done_none, may_next}
use Rattle.stm_session.proofs.deeds.perform.Goals as goal

pub loop-deed-init : goal.loop-deed-init
loop-deed-init g c = done_none c.step_laws.ensures _ _ _ (g.met.R.Rig.model c.args.rig.now)

pub perform_one-requires : goal.perform_one-requires
perform_one-requires g c =
    may_next c.args.chip.now _ c.loop-deed.deed-index _ c.loop-deed-test.true _ _ c.requires
    c.loop-deed.invariant.done

pub returns-in_err-perform_one-clause-does : goal.returns-in_err-perform_one-clause-does
returns-in_err-perform_one-clause-does g c =
    does_cut _ _ c.loop-deed.deed-index _ c.loop-deed-test.true c.loop-deed.invariant.does
    (g.met.R.Rig.model c.loop-deed.rig) c.in_err-perform_one.ensures.does c.from_residual.ensures.1

pub loop-deed-preserved : goal.loop-deed-preserved
loop-deed-preserved g c =
    let one = c.in_ok-perform_one.ensures in
    done_more_of _ _ c.loop-deed.deed-index _ c.loop-deed-test.true c.loop-deed.invariant
    (g.met.R.Rig.model c.loop-deed.rig) one.done one.cause one.does

pub returns-clause-does : goal.returns-clause-does
returns-clause-does g c =
    done_all _ _ c.loop-deed.deed-index c.loop-deed-test.false c.loop-deed.invariant
