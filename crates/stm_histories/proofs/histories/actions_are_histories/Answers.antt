use Rattle.stm_histories.proofs.Acting.{actions-are-histories, identifying-is-history, stopped-actions-are-undone, unprotected-actions-are-undone}
use Rattle.stm_histories.proofs.histories.actions_are_histories.Goals as goal

pub returns-clause-history : goal.returns-clause-history
returns-clause-history g c =
    actions-are-histories g.L.Rig.view (record {
      headline = c.a_session_can_be_undone.ensures.headline;
      whole = c.a_session_can_be_undone.ensures.whole;
      follows = c.a_session_can_be_undone.ensures.follows;
      told = c.a_run_is_known_by_its_outcomes.ensures;
    })

pub returns-clause-identifies : goal.returns-clause-identifies
returns-clause-identifies g c =
    identifying-is-history g.L.Rig.view (record {
      headline = c.a_session_can_be_undone.ensures.headline;
      whole = c.a_session_can_be_undone.ensures.whole;
      follows = c.a_session_can_be_undone.ensures.follows;
      told = c.a_run_is_known_by_its_outcomes.ensures;
    })

pub returns-clause-back : goal.returns-clause-back
returns-clause-back g c =
    stopped-actions-are-undone g.L.Rig.view (record {
      headline = c.a_session_can_be_undone.ensures.headline;
      whole = c.a_session_can_be_undone.ensures.whole;
      follows = c.a_session_can_be_undone.ensures.follows;
      told = c.a_run_is_known_by_its_outcomes.ensures;
    })

pub returns-clause-unprotected : goal.returns-clause-unprotected
returns-clause-unprotected g c =
    unprotected-actions-are-undone g.L.Rig.view (record {
      headline = c.a_session_can_be_undone.ensures.headline;
      whole = c.a_session_can_be_undone.ensures.whole;
      follows = c.a_session_can_be_undone.ensures.follows;
      told = c.a_run_is_known_by_its_outcomes.ensures;
    })
