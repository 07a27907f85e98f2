use Rattle.std.proofs.Common.{◌≤◌, ◌-◌, ◌++◌, ◌∷◌, [], ℕ, List, length, arith}
use Rattle.std.proofs.lemmas.Result.{on_ok_weaker}
use Rattle.stm_wire.proofs.Names.{ack, address_bytes, address_turns, BreaksOff, command, Fed, HasWritten, owing, step_turns, WireFault, with_checksum, write_frame, write_turns}
use Rattle.stm_wire.proofs.Holding.{Holds-append, BreaksOff-first, BreaksOff-second, on_fault, if_err_weaker}
use Rattle.stm_wire.proofs.Answering.{does_line, does_last}
use Rattle.stm_wire.proofs.Writing.{write-address, data-first, has_written}
use Rattle.stm_wire.proofs.write_memory.program.Goals as goal

pub returns-in_err-send_address-clause-broken : goal.returns-in_err-send_address-clause-broken
returns-in_err-send_address-clause-broken g c =
    let V = g.R.Rig.view in
    let bytes : List ℕ = c.args.bytes.now in
    let head = command 0x31 ++ with_checksum (address_bytes c.args.address) in
    let rest = with_checksum ((length bytes - 1) ∷ bytes) in
    let e = c.in_err-send_address.field-0.0 in
    let P : WireFault → Type 0 = λ fault. BreaksOff fault (write_frame c.args.address bytes) (write_turns c.args.address bytes) (V c.args.rig.now) (V c.send_address.new.rig) in
    on_fault P c.from_residual.result e c.from_residual.ensures.1
    (BreaksOff-first e head rest (address_turns 0x31 c.args.address) (step_turns rest) (V c.args.rig.now) (V c.send_address.new.rig) c.in_err-send_address.ensures.broken)

pub returns-in_err-send_address-clause-honest : goal.returns-in_err-send_address-clause-honest
returns-in_err-send_address-clause-honest g c h can =
    let V = g.R.Rig.view in
    let bytes : List ℕ = c.args.bytes.now in
    let some : 1 ≤ length bytes = omega (arith, c.requires.some) in
    let P : Unit {0} → Type 0 = λ _. HasWritten c.args.address bytes (V c.args.rig.now).device (V c.send_address.new.rig).device in
    does_line P c.from_residual.result c.in_err-send_address.field-0.0 c.from_residual.ensures.1
    (c.in_err-send_address.ensures.line h (write-address c.args.address bytes (V c.args.rig.now).device some can))

pub returns-clause-held : goal.returns-clause-held
returns-clause-held g c =
    let V = g.R.Rig.view in
    let bytes : List ℕ = c.args.bytes.now in
    let head = command 0x31 ++ with_checksum (address_bytes c.args.address) in
    let rest = with_checksum ((length bytes - 1) ∷ bytes) in
    on_ok_weaker c.send_data.result
    (Holds-append head rest (address_turns 0x31 c.args.address) (step_turns rest) (V c.args.rig.now) (V c.send_address.new.rig) (V c.send_data.new.rig) c.in_ok-send_address.ensures.held)
    c.send_data.ensures.held

pub returns-clause-broken : goal.returns-clause-broken
returns-clause-broken g c =
    let V = g.R.Rig.view in
    let bytes : List ℕ = c.args.bytes.now in
    let head = command 0x31 ++ with_checksum (address_bytes c.args.address) in
    let rest = with_checksum ((length bytes - 1) ∷ bytes) in
    let Q : WireFault → Type 0 = λ fault. BreaksOff fault rest (step_turns rest) (V c.send_address.new.rig) (V c.send_data.new.rig) in
    let P : WireFault → Type 0 = λ fault. BreaksOff fault (write_frame c.args.address bytes) (write_turns c.args.address bytes) (V c.args.rig.now) (V c.send_data.new.rig) in
    if_err_weaker Q P c.send_data.result
    (λ e. BreaksOff-second e head rest (address_turns 0x31 c.args.address) (step_turns rest) (V c.args.rig.now) (V c.send_address.new.rig) (V c.send_data.new.rig) c.in_ok-send_address.ensures.held)
    c.send_data.ensures.broken

pub returns-clause-honest : goal.returns-clause-honest
returns-clause-honest g c h can =
    let V = g.R.Rig.view in
    let bytes : List ℕ = c.args.bytes.now in
    let some : 1 ≤ length bytes = omega (arith, c.requires.some) in
    let d = (V c.args.rig.now).device in
    let is = (g.met.R.Rig.model c.args.rig.now h).device in
    let one = c.in_ok-send_address.ensures.waits h (write-address c.args.address bytes d some can) in
    let h1 = (c.in_ok-send_address.ensures.held.honestly h).honest in
    let mid = (V c.send_address.new.rig).device in
    let new = (V c.send_data.new.rig).device in
    let P : Unit {0} → Type 0 = λ _. HasWritten c.args.address bytes d new in
    let Q : Type 0 = Fed (with_checksum ((length bytes - 1) ∷ bytes)) mid (owing (ack ∷ []) new) in
    does_last P Q c.send_data.result (c.send_data.ensures.line h1 (data-first c.args.address bytes d some is can mid one)) (c.send_data.ensures.acknowledged h1)
    (λ u q. has_written c.args.address bytes d some is can mid new one q)
