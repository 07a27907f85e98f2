use Rattle.std.proofs.Common.{◌∷◌, [], refl, rules}
use Rattle.stm_wire.proofs.Names.{Acknowledged, BreaksOff, Learns, says, step_turns, WireFault}
use Rattle.stm_wire.specs.declared.fault.WireFault.TheVariants.{Nack, Garbled}
use Rattle.stm_wire.proofs.Holding.{Holds-then, BreaksOff-early, BreaksOff-then, on_fault}
use Rattle.stm_wire.proofs.LineCalls.{Holds-retold, BreaksOff-retold, BreaksOff-heard}
use Rattle.stm_wire.proofs.dialogue.send_step.Goals as goal

pub returns-in_err-put_all-clause-broken : goal.returns-in_err-put_all-clause-broken
returns-in_err-put_all-clause-broken g c =
    let V = g.R.Rig.view in
    let bytes = c.args.bytes.now in
    let P : WireFault → Type 0 = λ fault. BreaksOff fault bytes (step_turns bytes) (V c.args.rig.now) (V c.put_all.new.rig) in
    on_fault P c.from_residual.result c.in_err-put_all.field-0.0 c.from_residual.ensures.1
    (BreaksOff-early c.in_err-put_all.field-0.0 bytes (says bytes) (Acknowledged ∷ []) (V c.args.rig.now) (V c.put_all.new.rig) c.in_err-put_all.ensures.broken)

pub returns-in_err-receive-clause-broken : goal.returns-in_err-receive-clause-broken
returns-in_err-receive-clause-broken g c =
    let V = g.R.Rig.view in
    let bytes = c.args.bytes.now in
    let e = c.in_err-receive.field-0.0 in
    let P : WireFault → Type 0 = λ fault. BreaksOff fault bytes (step_turns bytes) (V c.args.rig.now) (V c.receive.new.rig) in
    on_fault P c.from_residual-in_err-receive.result e c.from_residual-in_err-receive.ensures.1
    (BreaksOff-then e bytes (says bytes) (Acknowledged ∷ []) (V c.args.rig.now) (V c.put_all.new.rig) (V c.receive.new.rig) c.in_ok-put_all.ensures.held
    (BreaksOff-retold e 0 Acknowledged (V c.put_all.new.rig) (V c.receive.new.rig) tt (c.in_err-receive.ensures.broken 0)))

pub returns-in-121-clause-held : goal.returns-in-121-clause-held
returns-in-121-clause-held g c =
    let V = g.R.Rig.view in
    let bytes = c.args.bytes.now in
    let one = rw c.in-121.is at c.in_ok-receive.ensures.held in
    Holds-then bytes (says bytes) (Acknowledged ∷ []) (V c.args.rig.now) (V c.put_all.new.rig) (V c.receive.new.rig) c.in_ok-put_all.ensures.held
    (Holds-retold (Learns 0x79) Acknowledged (V c.put_all.new.rig) (V c.receive.new.rig) refl one)

pub returns-in-31-clause-broken : goal.returns-in-31-clause-broken
returns-in-31-clause-broken g c =
    let V = g.R.Rig.view in
    let bytes = c.args.bytes.now in
    let one = rw c.in-31.is at c.in_ok-receive.ensures.held in
    BreaksOff-heard Nack bytes (says bytes) Acknowledged 0x1F (V c.args.rig.now) (V c.put_all.new.rig) (V c.receive.new.rig) (λ e. cc) refl c.in_ok-put_all.ensures.held one

pub returns-in_default-clause-broken : goal.returns-in_default-clause-broken
returns-in_default-clause-broken g c =
    let V = g.R.Rig.view in
    let bytes = c.args.bytes.now in
    BreaksOff-heard Garbled bytes (says bytes) Acknowledged c.in_ok-receive.field-0 (V c.args.rig.now) (V c.put_all.new.rig) (V c.receive.new.rig) (λ e. cc) (c.in_ok-receive.field-0, search rules, search rules, refl) c.in_ok-put_all.ensures.held c.in_ok-receive.ensures.held
