use Rattle.std.proofs.Common.{◌∙◌, ap}
use Rattle.stmflash.proofs.Protecting.{fed_connected}
use Rattle.stmflash.proofs.protections.Protections.fed.Goals as goal
use Rattle.stmflash.specs.Protections.{fed_behind}

pub returns-in-Some : goal.returns-in-Some
returns-in-Some c =
    let self = c.args.self.now in
    let sim = c.args.sim.now in
    let rest = c.in-Some.rest.now in
    c.fed_behind.ensures
    ∙ (ap (λ chip. fed_behind self.pages chip rest c.fed_unreadable.result) c.chip.ensures
    ∙ (ap (λ x. fed_behind self.pages sim.chip rest x) c.fed_unreadable.ensures
    ∙ fed_connected self sim rest c.args.byte c.in-Some.ensures))
