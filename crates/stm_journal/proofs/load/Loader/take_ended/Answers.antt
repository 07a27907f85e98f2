use Rattle.std.proofs.Common.{◌++◌, ◌∷◌, [], arith, length-append}
use Rattle.std.proofs.lemmas.Result.{err_from_is_err_and}
use Rattle.stm_journal.proofs.Loads.{TakesBytes-join, StopsAt-first}
use Rattle.stm_journal.proofs.load.Loader.take_ended.Goals as goal

pub returns-in_err-take_part-clause-takes : goal.returns-in_err-take_part-clause-takes
returns-in_err-take_part-clause-takes c = λ bytes is none short.
    let p = err_from_is_err_and c.from_residual.result c.from_residual.ensures.1 in
    rw (p.1, p.2) (StopsAt-first bytes c.args.part.now (10 ∷ []) c.in_err-take_part.field-0.0 (c.in_err-take_part.ensures.takes bytes is none short))

pub returns-clause-takes : goal.returns-clause-takes
returns-clause-takes c = λ bytes is none short.
    let part = c.args.part.now in
    TakesBytes-join bytes part (10 ∷ []) c.take_line.new.self.journal c.take_line.new.self.tail c.take_line.result
    (c.take_line.ensures.takes (bytes ++ part) (c.in_ok-take_part.ensures.takes bytes is none short) (omega (arith, short, length-append bytes part)))
