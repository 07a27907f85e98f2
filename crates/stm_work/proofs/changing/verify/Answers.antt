use Rattle.std.proofs.Common.{ap, map}
use Rattle.stm_session.proofs.Names.{outcome_data, outcomes_in}
use Rattle.stm_work.specs.Answer.{outcomes_told}
use Rattle.stm_work.proofs.Telling.{told_err, told_ok, verified_is}
use Rattle.stm_work.proofs.changing.verify.Goals as goal

pub returns-in_err-run-clause-runs : goal.returns-in_err-run-clause-runs
returns-in_err-run-clause-runs g c =
    let V = g.L.Rig.view in
    told_err c.args.table.now _ (V c.args.rig.now) (V c.run.new.rig) outcomes_in outcomes_told _ c.from_residual.result c.from_residual.ensures.1 (record { promised = c.in_err-run.ensures.promised; cause = c.in_err-run.ensures.cause; puts = c.in_err-run.ensures.puts; silent = c.in_err-run.ensures.silent; order = c.in_err-run.ensures.order; stops = c.in_err-run.ensures.stops })

pub returns-clause-runs : goal.returns-clause-runs
returns-clause-runs g c =
    let V = g.L.Rig.view in
    told_ok c.args.table.now _ (V c.args.rig.now) (V c.run.new.rig) outcomes_in outcomes_told _ _ (ap (map outcome_data) (verified_is c.args.image _ c.in_ok-run.ensures.kinds)) (record { promised = c.in_ok-run.ensures.promised; cause = c.in_ok-run.ensures.cause; puts = c.in_ok-run.ensures.puts; silent = c.in_ok-run.ensures.silent; order = c.in_ok-run.ensures.order; stops = c.in_ok-run.ensures.stops })
