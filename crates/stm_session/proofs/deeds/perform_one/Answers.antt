use Rattle.std.proofs.Common.{◌+◌, ap, rules}
use Rattle.stm_session.proofs.OneDeed.{as_deed, erase_does, line_does, write_does}
use Rattle.stm_session.proofs.deeds.perform_one.Goals as goal

pub returns-in-Keep-clause-does : goal.returns-in-Keep-clause-does
returns-in-Keep-clause-does g c =
    let call = c.keep_page.ensures in
    line_does c.step_laws.ensures c.args.chip.now c.keeps_limits.ensures.pages
    (g.met.R.Rig.model c.args.rig.now) c.requires c.in-Keep.is (search rules) c.said.ensures
    call.calls call.honest call.after call.left call.text

pub returns-in-IntendErase-clause-does : goal.returns-in-IntendErase-clause-does
returns-in-IntendErase-clause-does g c =
    let call = c.intend_erase.ensures in
    line_does c.step_laws.ensures c.args.chip.now c.keeps_limits.ensures.pages
    (g.met.R.Rig.model c.args.rig.now) c.requires c.in-IntendErase.is tt
    c.said-in-IntendErase.ensures call.calls call.honest call.after call.left call.text

pub returns-in-IntendProgram-clause-does : goal.returns-in-IntendProgram-clause-does
returns-in-IntendProgram-clause-does g c =
    let call = c.intend_program.ensures in
    line_does c.step_laws.ensures c.args.chip.now c.keeps_limits.ensures.pages
    (g.met.R.Rig.model c.args.rig.now) c.requires c.in-IntendProgram.is tt
    c.said-in-IntendProgram.ensures call.calls call.honest call.after call.left call.text

pub returns-in-Erase-clause-does : goal.returns-in-Erase-clause-does
returns-in-Erase-clause-does g c =
    let call = c.erase_page.ensures in
    as_deed c.in-Erase.is c.sent.ensures c.requires
    (λ may. erase_does c.step_laws.ensures c.args.chip.now _ (g.met.R.Rig.model c.args.rig.now)
    (g.met.R.Rig.model c.erase_page.new.rig) _ _ c.kind.ensures may call.held call.broken
    call.honest)

pub returns-in-Write-clause-does : goal.returns-in-Write-clause-does
returns-in-Write-clause-does g c =
    let call = c.program.ensures in
    let at = ap (λ x. x + c.in-Write.frame.offset) c.page_start.ensures.address in
    as_deed c.in-Write.is c.sent-in-Write.ensures c.requires
    (λ may. write_does c.step_laws.ensures c.args.chip.now _ (g.met.R.Rig.model c.args.rig.now)
    (g.met.R.Rig.model c.program.new.rig) _ _ c.in-Write.page _ _ at
    (search (rules, c.from.ensures)) may call.held call.broken call.honest)
