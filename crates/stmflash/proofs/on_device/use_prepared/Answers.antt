use Rattle.std.proofs.Common.{◌∙◌, ap, is_some}
use Rattle.stmflash.proofs.TaskUse.{at-fault, found-options, own-options, uses-task}
use Rattle.stmflash.proofs.on_device.use_prepared.Goals as goal

pub returns-then-not-options : goal.returns-then-not-options
returns-then-not-options g c = λ task is.
    uses-task _ _ _ _ _ _ _ _ _ _ is.is_work
    (own-options _ c.if-not-options.true) is.filed c.use_beside.ensures

pub returns-in_err-check : goal.returns-in_err-check
returns-in_err-check g c = λ task is. at-fault _ _ c.from_residual.result c.from_residual.ensures.1

pub returns : goal.returns
returns g c = λ task is.
    uses-task _ _ _ _ _ _ _ _ _ _ is.is_work
    (found-options _ _ c.if-not-options.false c.in-Ok.ensures)
    (ap is_some c.beside-files.ensures ∙ is.filed) c.use_beside-2.ensures
