use Rattle.std.proofs.Common.{rules, refl, true, false, nat_lt, ◌≡◌, length}
use Rattle.stm_session.proofs.Names.{open_refusal}
use Rattle.stm_session.proofs.Forgetting.{open-forgets}
use Rattle.stm_session.proofs.Openings.{load_accepted, load_failed, load_refused, load_spared, closed_accepted, open_refused}
use Rattle.stm_session.proofs.go_and_protect.check_closed.Goals as goal

pub returns-in_err-journal-clause-honest : goal.returns-in_err-journal-clause-honest
returns-in_err-journal-clause-honest g c h =
    let V = g.R.Rig.view in
    load_failed open_refusal (λ line. refl) (V c.args.rig.now) (V c.load.new.rig) _ c.from_residual.result (c.in_err-journal.ensures.honest h) c.from_residual.ensures.1

pub returns-in_err-journal-clause-memory : goal.returns-in_err-journal-clause-memory
returns-in_err-journal-clause-memory g c h empty =
    let V = g.R.Rig.view in
    load_spared (V c.args.rig.now) (V c.load.new.rig) _ c.from_residual.result (c.in_err-journal.ensures.honest h) empty c.from_residual.ensures.1

pub returns-then-is_open-clause-honest : goal.returns-then-is_open-clause-honest
returns-then-is_open-clause-honest g c h =
    let V = g.R.Rig.view in
    let is : nat_lt 0 (length c.in_ok-journal.journal.state.stack) ≡ true = search (rules, c.is_open.ensures, c.if-is_open.true) in
    load_refused open_refusal open-forgets (V c.args.rig.now) (V c.load.new.rig) _ _ (c.in_ok-journal.ensures.honest h) (open_refused c.in_ok-journal.journal.state is)

pub returns-clause-honest : goal.returns-clause-honest
returns-clause-honest g c h =
    let V = g.R.Rig.view in
    let is : nat_lt 0 (length c.in_ok-journal.journal.state.stack) ≡ false = search (rules, c.is_open.ensures, c.if-is_open.false) in
    load_accepted open_refusal open-forgets (V c.args.rig.now) (V c.load.new.rig) _ _ (c.in_ok-journal.ensures.honest h) (closed_accepted c.in_ok-journal.journal.state is)
