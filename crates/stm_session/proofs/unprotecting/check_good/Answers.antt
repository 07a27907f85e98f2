use Rattle.std.proofs.Common.{refl}
use Rattle.stm_session.proofs.Names.{bad_refusal}
use Rattle.stm_session.proofs.Openings.{load_accepted, load_failed, load_spared}
use Rattle.stm_session.proofs.unprotecting.check_good.Goals as goal

pub returns-in_err-_journal-clause-honest : goal.returns-in_err-_journal-clause-honest
returns-in_err-_journal-clause-honest g c h =
    let V = g.R.Rig.view in
    load_failed bad_refusal (λ line. refl) (V c.args.rig.now) (V c.load.new.rig) _ c.from_residual.result (c.in_err-_journal.ensures.honest h) c.from_residual.ensures.1

pub returns-in_err-_journal-clause-memory : goal.returns-in_err-_journal-clause-memory
returns-in_err-_journal-clause-memory g c h empty =
    let V = g.R.Rig.view in
    load_spared (V c.args.rig.now) (V c.load.new.rig) _ c.from_residual.result (c.in_err-_journal.ensures.honest h) empty c.from_residual.ensures.1

pub returns-clause-honest : goal.returns-clause-honest
returns-clause-honest g c h =
    let V = g.R.Rig.view in
    load_accepted bad_refusal (λ s. refl) (V c.args.rig.now) (V c.load.new.rig) _ _ (c.in_ok-_journal.ensures.honest h) refl
