-- A run is known by the outcomes that its answer tells.
use Rattle.std.proofs.Common.{Ok, Err}
use Rattle.stm_wire.proofs.Names.{RigState}
use Rattle.stm_session.proofs.Names.{OutcomesAreTheRun}

-- what a run promises with whatever answer, it promises of the outcomes which that tells
pub outcomes-are-the-run : {R T : Type 0} (view : R → RigState) → OutcomesAreTheRun R T view
outcomes-are-the-run view table commands old new (Ok x) outcomes_of c =
    record {
      unsent = λ honest refusal said. absurd (c.unsent honest refusal said).answers;
      unsent_calls = c.unsent_calls;
      refused = λ honest safe refusal said. absurd (c.refused honest safe refusal said).answers;
      runs = λ honest flashes u tabled none.
          let r = c.runs honest flashes u tabled none in
          record { moments = r.moments; left = r.left; honest = r.honest; outcomes = r.outcomes; done = r.done; settled = r.settled; fails = tt };
      spared = λ honest empty none. tt;
    }
outcomes-are-the-run view table commands old new (Err e) outcomes_of c =
    record {
      unsent = λ honest refusal said.
          let r = c.unsent honest refusal said in
          record { moments = r.moments; honest = r.honest; left = r.left; answers = r.answers };
      unsent_calls = c.unsent_calls;
      refused = λ honest safe refusal said.
          let r = c.refused honest safe refusal said in
          record { moments = r.moments; honest = r.honest; left = r.left; answers = r.answers };
      runs = λ honest flashes u tabled none.
          let r = c.runs honest flashes u tabled none in
          record { moments = r.moments; left = r.left; honest = r.honest; outcomes = tt; done = tt; settled = tt; fails = r.fails };
      spared = c.spared;
    }
