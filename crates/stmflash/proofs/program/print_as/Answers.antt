use Rattle.stmflash.proofs.Printed.{as-json, as-text}
use Rattle.stmflash.proofs.program.print_as.Goals as goal

pub returns-then-is_told_as_json : goal.returns-then-is_told_as_json
returns-then-is_told_as_json g c =
    as-json c.args.is_json c.args.hint c.args.steps.now _ _ (λ text. text.items) c.json_of_done-lines.result
    c.print_line.result c.is_told_as_json.result c.name_of.result.now c.is_told_as_json.ensures
    c.if-is_told_as_json.true c.name_of.ensures c.json_of_done-lines.ensures
    c.print_line.ensures.lines c.print_line.ensures.short

pub returns : goal.returns
returns g c =
    as-text c.args.is_json c.args.hint c.args.steps.now _ _ c.print_at_once.result
    c.is_told_as_json.result c.is_told_as_json.ensures c.if-is_told_as_json.false
    c.print_at_once.ensures
