use Rattle.std.proofs.lemmas.Result.{on_ok_weaker}
use Rattle.stm_wire.proofs.Names.{address_bytes, address_turns, BreaksOff, command, step_turns, WireFault, with_checksum}
use Rattle.std.proofs.Common.{◌++◌}
use Rattle.stm_wire.proofs.Holding.{Holds-append, BreaksOff-first, BreaksOff-second, on_fault, if_err_weaker}
use Rattle.stm_wire.proofs.Steps.{code-step}
use Rattle.stm_wire.proofs.Address.{settled-is, code-waits, address-first, address-step}
use Rattle.stm_wire.proofs.dialogue.send_address.Goals as goal

pub returns-in_err-send_step-clause-broken : goal.returns-in_err-send_step-clause-broken
returns-in_err-send_step-clause-broken g c =
    let V = g.R.Rig.view in
    let code = command c.args.code in
    let rest = with_checksum (address_bytes c.args.address) in
    let e = c.in_err-send_step.field-0.0 in
    let P : WireFault → Type 0 = λ fault. BreaksOff fault (code ++ rest) (address_turns c.args.code c.args.address) (V c.args.rig.now) (V c.send_step.new.rig) in
    on_fault P c.from_residual.result e c.from_residual.ensures.1
    (BreaksOff-first e code rest (step_turns code) (step_turns rest) (V c.args.rig.now) (V c.send_step.new.rig) c.in_err-send_step.ensures.broken)

pub returns-clause-held : goal.returns-clause-held
returns-clause-held g c =
    let V = g.R.Rig.view in
    let code = command c.args.code in
    let rest = with_checksum (address_bytes c.args.address) in
    on_ok_weaker c.send_step-2.result
    (Holds-append code rest (step_turns code) (step_turns rest) (V c.args.rig.now) (V c.send_step.new.rig) (V c.send_step-2.new.rig) c.in_ok-send_step.ensures.held)
    (rw c.address_step.ensures at c.send_step-2.ensures.held)

pub returns-clause-broken : goal.returns-clause-broken
returns-clause-broken g c =
    let V = g.R.Rig.view in
    let code = command c.args.code in
    let rest = with_checksum (address_bytes c.args.address) in
    let Q : WireFault → Type 0 = λ fault. BreaksOff fault rest (step_turns rest) (V c.send_step.new.rig) (V c.send_step-2.new.rig) in
    let P : WireFault → Type 0 = λ fault. BreaksOff fault (code ++ rest) (address_turns c.args.code c.args.address) (V c.args.rig.now) (V c.send_step-2.new.rig) in
    if_err_weaker Q P c.send_step-2.result
    (λ e. BreaksOff-second e code rest (step_turns code) (step_turns rest) (V c.args.rig.now) (V c.send_step.new.rig) (V c.send_step-2.new.rig) c.in_ok-send_step.ensures.held)
    (rw c.address_step.ensures at c.send_step-2.ensures.broken)

pub returns-clause-waits : goal.returns-clause-waits
returns-clause-waits g c h takes =
    let V = g.R.Rig.view in
    let is = (g.met.R.Rig.model c.args.rig.now h).device in
    let one = code-step c.args.code (V c.args.rig.now).device (settled-is (V c.args.rig.now).device takes.settled) (code-waits c.args.code c.args.address (V c.args.rig.now).device is takes) (V c.send_step.new.rig).device (c.in_ok-send_step.ensures.acknowledged h) in
    on_ok_weaker c.send_step-2.result (address-step c.args.code c.args.address (V c.args.rig.now).device is takes (V c.send_step.new.rig).device (V c.send_step-2.new.rig).device one)
    ((rw c.address_step.ensures at c.send_step-2.ensures.acknowledged) ((c.in_ok-send_step.ensures.held.honestly h).honest))

pub returns-clause-line : goal.returns-clause-line
returns-clause-line g c h takes =
    let V = g.R.Rig.view in
    let is = (g.met.R.Rig.model c.args.rig.now h).device in
    let one = code-step c.args.code (V c.args.rig.now).device (settled-is (V c.args.rig.now).device takes.settled) (code-waits c.args.code c.args.address (V c.args.rig.now).device is takes) (V c.send_step.new.rig).device (c.in_ok-send_step.ensures.acknowledged h) in
    let f = rw c.address_step.ensures at c.send_step-2.ensures.line in
    f ((c.in_ok-send_step.ensures.held.honestly h).honest) (address-first c.args.code c.args.address (V c.args.rig.now).device is takes (V c.send_step.new.rig).device one)
