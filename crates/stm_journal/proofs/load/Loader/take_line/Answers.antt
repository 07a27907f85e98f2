use Rattle.std.proofs.Common.{sym, subst, ◌∷◌, [], ◌++◌}
use Rattle.std.proofs.lemmas.Result.{err_from_is_err_and}
use Rattle.stm_journal.proofs.Names.{IsRead, Summary}
use Rattle.stm_journal.proofs.Loads.{IsRead-line, StopsAt-line}
use Rattle.stm_journal.proofs.load.Loader.take_line.Goals as goal

pub returns-in_err-pass_line-clause-takes : goal.returns-in_err-pass_line-clause-takes
returns-in_err-pass_line-clause-takes c = λ bytes is short.
    let p = err_from_is_err_and c.from_residual.result c.from_residual.ensures.1 in
    rw (p.1, p.2) (StopsAt-line c.args.self.now.journal c.args.self.now.tail bytes c.in_err-pass_line.field-0.0 is short c.in_err-pass_line.ensures.err)

pub returns-clause-takes : goal.returns-clause-takes
returns-clause-takes c = λ bytes is short.
    let Y : Summary → Type 0 = λ y. IsRead c.pass_line.new.self y (bytes ++ 10 ∷ []) in
    subst Y (sym c.clear.ensures) (IsRead-line c.args.self.now.journal c.pass_line.new.self c.args.self.now.tail bytes is short c.in_ok-pass_line.ensures.ok)
