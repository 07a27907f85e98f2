use Rattle.std.proofs.Common.{◌∷◌, [], ◌≡◌}
use Rattle.std.proofs.lemmas.Result.{on_ok_weaker}
use Rattle.stm_wire.proofs.Names.{ack, BreaksOff, command, Expects, protect_turns, protection_code, step_turns, WireFault}
use Rattle.stm_wire.specs.declared.fault.WireFault.TheVariants.{Line}
use Rattle.stm_wire.proofs.Holding.{Holds-then, BreaksOff-early, BreaksOff-then, on_fault, if_err_weaker}
use Rattle.stm_wire.proofs.Protecting.{protect-first, protect-second}
use Rattle.stm_wire.proofs.protection.protect.Goals as goal

pub returns-in_err-send_step-clause-broken : goal.returns-in_err-send_step-clause-broken
returns-in_err-send_step-clause-broken g c =
    let V = g.R.Rig.view in
    let code = protection_code c.args.kind in
    let e = c.in_err-send_step.field-0.0 in
    let P : WireFault → Type 0 = λ fault. BreaksOff fault (command code) (protect_turns code) (V c.args.rig.now) (V c.send_step.new.rig) in
    on_fault P c.from_residual.result e c.from_residual.ensures.1
    (BreaksOff-early e (command code) (step_turns (command code)) (Expects ack ∷ []) (V c.args.rig.now) (V c.send_step.new.rig) (rw c.code-code.ensures at c.in_err-send_step.ensures.broken))

pub returns-in_err-send_step-clause-honest : goal.returns-in_err-send_step-clause-honest
returns-in_err-send_step-clause-honest g c h can =
    let V = g.R.Rig.view in
    let d = (V c.args.rig.now).device in
    let P : WireFault → Type 0 = λ fault. fault ≡ Line in
    on_fault P c.from_residual.result c.in_err-send_step.field-0.0 c.from_residual.ensures.1
    ((rw c.code-code.ensures at c.in_err-send_step.ensures.line) h (protect-first c.args.kind d can))

pub returns-clause-held : goal.returns-clause-held
returns-clause-held g c =
    let V = g.R.Rig.view in
    let code = protection_code c.args.kind in
    on_ok_weaker c.expect_byte.result
    (Holds-then (command code) (step_turns (command code)) (Expects ack ∷ []) (V c.args.rig.now) (V c.send_step.new.rig) (V c.expect_byte.new.rig) (rw c.code-code.ensures at c.in_ok-send_step.ensures.held))
    c.expect_byte.ensures.held

pub returns-clause-broken : goal.returns-clause-broken
returns-clause-broken g c =
    let V = g.R.Rig.view in
    let code = protection_code c.args.kind in
    let Q : WireFault → Type 0 = λ fault. BreaksOff fault [] (Expects ack ∷ []) (V c.send_step.new.rig) (V c.expect_byte.new.rig) in
    let P : WireFault → Type 0 = λ fault. BreaksOff fault (command code) (protect_turns code) (V c.args.rig.now) (V c.expect_byte.new.rig) in
    if_err_weaker Q P c.expect_byte.result
    (λ e. BreaksOff-then e (command code) (step_turns (command code)) (Expects ack ∷ []) (V c.args.rig.now) (V c.send_step.new.rig) (V c.expect_byte.new.rig) (rw c.code-code.ensures at c.in_ok-send_step.ensures.held))
    c.expect_byte.ensures.broken

pub returns-clause-honest : goal.returns-clause-honest
returns-clause-honest g c h can =
    let V = g.R.Rig.view in
    let d = (V c.args.rig.now).device in
    let h1 = (c.in_ok-send_step.ensures.held.honestly h).honest in
    c.expect_byte.ensures.line h1 (protect-second c.args.kind d can (V c.send_step.new.rig).device ((rw c.code-code.ensures at c.in_ok-send_step.ensures.acknowledged) h))
