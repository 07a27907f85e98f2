use Rattle.std.proofs.Common.{◌∙◌, [], ◌∷◌, ap, map}
use Rattle.stm_session.specs.declared.command.Command.TheVariants.{Erase}
use Rattle.stm_session.specs.declared.outcome.Outcome.{Outcome}
use Rattle.stm_session.proofs.Names.{outcome_data, outcomes_in}
use Rattle.stm_work.specs.Answer.{outcomes_told}
use Rattle.stm_work.proofs.Telling.{only_is, told_err, told_ok}
use Rattle.stm_work.proofs.changing.erase.Goals as goal

pub returns-in_err-report-clause-runs : goal.returns-in_err-report-clause-runs
returns-in_err-report-clause-runs g c =
    let V = g.L.Rig.view in
    told_err c.args.table.now _ (V c.args.rig.now) (V c.run.new.rig) outcomes_in outcomes_told _ c.from_residual.result c.from_residual.ensures.1
    (record { promised = c.in_err-report.ensures.promised; cause = c.in_err-report.ensures.cause; puts = c.in_err-report.ensures.puts; silent = c.in_err-report.ensures.silent; order = c.in_err-report.ensures.order; stops = c.in_err-report.ensures.stops })

pub returns-clause-runs : goal.returns-clause-runs
returns-clause-runs g c =
    let V = g.L.Rig.view in
    let is = only_is (Erase c.args.pages) _ c.pop.new.self.items _ c.in-Some-Erased.ensures.items c.in_ok-report.ensures.kinds in
    told_ok c.args.table.now _ (V c.args.rig.now) (V c.run.new.rig) outcomes_in outcomes_told _ _
    (ap (map outcome_data) is ∙ ap (λ (said : Outcome). outcome_data said ∷ []) c.in-Some-Erased.field-0-is)
    (record { promised = c.in_ok-report.ensures.promised; cause = c.in_ok-report.ensures.cause; puts = c.in_ok-report.ensures.puts; silent = c.in_ok-report.ensures.silent; order = c.in_ok-report.ensures.order; stops = c.in_ok-report.ensures.stops })
