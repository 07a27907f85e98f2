use Rattle.std.proofs.Common.{rules, Some, refl}
use Rattle.stm_session.proofs.Names.{outcomes_seen}
use Rattle.stm_work.specs.declared.answer.Answer.TheVariants.{Written}
use Rattle.stm_work.specs.Answer.{outcomes_told}
use Rattle.stm_work.proofs.Telling.{told_err, told_ok}
use Rattle.stm_work.proofs.changing.write_and_verify.Goals as goal

pub returns-in_err-written-clause-runs : goal.returns-in_err-written-clause-runs
returns-in_err-written-clause-runs g c =
    let V = g.L.Rig.view in
    let did = c.in_err-written.ensures.1 in
    record {
      part = c.in_err-written.ensures.0;
      among = did.among;
      runs = told_err c.args.table.now _ (V c.args.rig.now) (V c.write_and_verify.new.rig) outcomes_seen outcomes_told _ c.from_residual.result c.from_residual.ensures.1
          (record { promised = did.promised; cause = did.cause; puts = did.puts; silent = did.silent; order = did.order; stops = did.stops });
      seen = search rules;
    }

pub returns-clause-runs : goal.returns-clause-runs
returns-clause-runs g c =
    let V = g.L.Rig.view in
    let did = c.in_ok-written.ensures.1 in
    record {
      part = c.in_ok-written.ensures.0;
      among = did.among;
      runs = told_ok c.args.table.now _ (V c.args.rig.now) (V c.write_and_verify.new.rig) outcomes_seen outcomes_told _ _ refl
          (record { promised = did.promised; cause = did.cause; puts = did.puts; silent = did.silent; order = did.order; stops = did.stops });
      seen = c.a_verified_write_saw_each_byte.ensures c.args.table.now c.args.image c.in_ok-written.ensures.0 _ c.args.rig.now c.write_and_verify.new.rig did.told;
    }
