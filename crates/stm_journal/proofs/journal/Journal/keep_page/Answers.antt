use Rattle.std.proofs.Common.{sym, subst}
use Rattle.std.proofs.lemmas.Result.{on_ok_weaker}
use Rattle.std.proofs.Common.{length}
use Rattle.stm_journal.proofs.Names.{blank, HasKept, Loaded}
use Rattle.stm_journal.proofs.AfterCalls.{HasKept-after}
use Rattle.stm_journal.proofs.journal.Journal.keep_page.Goals as goal

pub returns-clause-kept : goal.returns-clause-kept
returns-clause-kept g c =
    let l = c.args.self.now in
    let n = c.args.n in
    let bytes = c.args.bytes.now in
    let H : Loaded → Type 0 = λ x. HasKept n (blank (length bytes)) l.state x.state in
    on_ok_weaker c.add.result (λ e. subst H (sym e) (HasKept-after n bytes l c.requires.«open»)) c.add.ensures.after
