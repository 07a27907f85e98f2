use Rattle.std.proofs.Common.{rules, refl, true, false, ◌≡◌}
use Rattle.stm_journal.proofs.Names.{is_unfinished}
use Rattle.stm_session.proofs.Names.{unsent_refusal}
use Rattle.stm_session.proofs.Forgetting.{unsent-forgets}
use Rattle.stm_session.proofs.Openings.{load_accepted, load_failed, load_refused, load_spared, finished_accepted, unfinished_refused}
use Rattle.stm_session.proofs.opening.load_finished.Goals as goal

pub returns-in_err-journal-clause-honest : goal.returns-in_err-journal-clause-honest
returns-in_err-journal-clause-honest g c h =
    let V = g.R.Rig.view in
    load_failed unsent_refusal (λ line. refl) (V c.args.rig.now) (V c.load.new.rig) _ c.from_residual.result (c.in_err-journal.ensures.honest h) c.from_residual.ensures.1

pub returns-in_err-journal-clause-memory : goal.returns-in_err-journal-clause-memory
returns-in_err-journal-clause-memory g c h empty =
    let V = g.R.Rig.view in
    load_spared (V c.args.rig.now) (V c.load.new.rig) _ c.from_residual.result (c.in_err-journal.ensures.honest h) empty c.from_residual.ensures.1

pub returns-then-is_unfinished-clause-honest : goal.returns-then-is_unfinished-clause-honest
returns-then-is_unfinished-clause-honest g c h =
    let V = g.R.Rig.view in
    let is : is_unfinished c.in_ok-journal.journal.state ≡ true = search (rules, c.is_unfinished.ensures, c.if-is_unfinished.true) in
    load_refused unsent_refusal unsent-forgets (V c.args.rig.now) (V c.load.new.rig) _ _ (c.in_ok-journal.ensures.honest h) (unfinished_refused c.in_ok-journal.journal.state is)

pub returns-clause-honest : goal.returns-clause-honest
returns-clause-honest g c h =
    let V = g.R.Rig.view in
    let is : is_unfinished c.in_ok-journal.journal.state ≡ false = search (rules, c.is_unfinished.ensures, c.if-is_unfinished.false) in
    load_accepted unsent_refusal unsent-forgets (V c.args.rig.now) (V c.load.new.rig) _ _ (c.in_ok-journal.ensures.honest h) (finished_accepted c.in_ok-journal.journal.state is)
