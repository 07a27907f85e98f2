use Rattle.std.proofs.Common.{sym, subst}
use Rattle.std.proofs.lemmas.Result.{on_ok_weaker}
use Rattle.stm_journal.proofs.Names.{HasEnded, Loaded}
use Rattle.stm_journal.proofs.AfterCalls.{HasEnded-after}
use Rattle.stm_journal.proofs.journal.Journal.end.Goals as goal

pub returns-clause-ended : goal.returns-clause-ended
returns-clause-ended g c =
    let l = c.args.self.now in
    let H : Loaded → Type 0 = λ x. HasEnded l.state x.state in
    on_ok_weaker c.add.result (λ e. subst H (sym e) (HasEnded-after c.depth-k.result l)) c.add.ensures.after
