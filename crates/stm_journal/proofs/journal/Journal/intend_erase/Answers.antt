use Rattle.std.proofs.Common.{sym, subst}
use Rattle.std.proofs.lemmas.Result.{on_ok_weaker}
use Rattle.stm_wire.specs.declared.intent.Intent.TheVariants.{Erase}
use Rattle.stm_journal.proofs.Names.{HasIntended, Loaded}
use Rattle.stm_journal.proofs.AfterCalls.{HasIntended-erase}
use Rattle.stm_journal.proofs.journal.Journal.intend_erase.Goals as goal

pub returns-clause-intended : goal.returns-clause-intended
returns-clause-intended g c =
    let l = c.args.self.now in
    let H : Loaded → Type 0 = λ x. HasIntended c.args.n (Erase c.args.n) l.state x.state in
    on_ok_weaker c.add.result (λ e. subst H (sym e) (HasIntended-erase c.args.n l c.requires)) c.add.ensures.after
