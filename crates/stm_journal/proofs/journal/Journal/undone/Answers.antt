use Rattle.std.proofs.Common.{sym, subst}
use Rattle.std.proofs.lemmas.Result.{on_ok_weaker}
use Rattle.stm_journal.proofs.Names.{HasUndone, IsSound, Loaded}
use Rattle.stm_journal.proofs.AfterCalls.{HasUndone-after}
use Rattle.stm_journal.proofs.journal.Journal.undone.Goals as goal

pub returns-clause-undone : goal.returns-clause-undone
returns-clause-undone g c =
    let l = c.args.self.now in
    let H : Loaded → Type 0 = λ x. HasUndone l.state x.state in
    let S : Loaded → Type 0 = λ x. IsSound x.state in
    on_ok_weaker c.add.result (λ e. subst H (sym e) (HasUndone-after c.depth-k.result l c.requires (subst S c.self.view_is c.depth-k.ensures.sound))) c.add.ensures.after
