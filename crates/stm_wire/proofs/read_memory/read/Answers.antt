use Rattle.std.proofs.Common.{◌≡◌, [], ◌≤◌, ℕ, List, length, rules, sym, le_of_eq}
use Rattle.std.proofs.lemmas.Result.{on_ok_weaker}
use Rattle.stm_wire.proofs.Names.{BreaksOff, HasRead, learns, owing, read_frame, read_turns, WireFault}
use Rattle.stm_wire.proofs.Holding.{on_fault, if_err_weaker}
use Rattle.stm_wire.proofs.Answering.{does_line, does_last}
use Rattle.stm_wire.proofs.Reading.{tells, takes-address, count-first, count-step, length-told, has_read, read_broken, read_broken-2, read_broken-3, read_held}
use Rattle.stm_wire.proofs.read_memory.read.Goals as goal

pub returns-in_err-send_address-clause-broken : goal.returns-in_err-send_address-clause-broken
returns-in_err-send_address-clause-broken g c =
    let V = g.R.Rig.view in
    let n = length c.args.buf.now in
    let e = c.in_err-send_address.field-0.0 in
    let P : WireFault → Type 0 = λ fault. (answer : List ℕ) × (length answer ≡ n) × BreaksOff fault (read_frame c.args.address n) (read_turns c.args.address answer) (V c.args.rig.now) (V c.send_address.new.rig) in
    on_fault P c.from_residual.result e c.from_residual.ensures.1 (read_broken e c.args.address n (V c.args.rig.now) (V c.send_address.new.rig) c.in_err-send_address.ensures.broken)

pub returns-in_err-send_address-clause-honest : goal.returns-in_err-send_address-clause-honest
returns-in_err-send_address-clause-honest g c h can =
    let V = g.R.Rig.view in
    let n = length c.args.buf.now in
    let P : Unit {0} → Type 0 = λ _. HasRead c.args.address c.args.buf.now (V c.args.rig.now).device (V c.send_address.new.rig).device in
    does_line P c.from_residual.result c.in_err-send_address.field-0.0 c.from_residual.ensures.1
    (c.in_err-send_address.ensures.line h (takes-address c.args.address n (V c.args.rig.now).device c.requires.some (tells c.args.address n (V c.args.rig.now).device can)))

pub returns-in_err-send_step-clause-broken : goal.returns-in_err-send_step-clause-broken
returns-in_err-send_step-clause-broken g c =
    let V = g.R.Rig.view in
    let n = length c.args.buf.now in
    let e = c.in_err-send_step.field-0.0 in
    let P : WireFault → Type 0 = λ fault. (answer : List ℕ) × (length answer ≡ n) × BreaksOff fault (read_frame c.args.address n) (read_turns c.args.address answer) (V c.args.rig.now) (V c.send_step.new.rig) in
    on_fault P c.from_residual-in_err-send_step.result e c.from_residual-in_err-send_step.ensures.1
    (read_broken-2 e c.args.address n (V c.args.rig.now) (V c.send_address.new.rig) (V c.send_step.new.rig) c.in_ok-send_address.ensures.held c.in_err-send_step.ensures.broken)

pub returns-in_err-send_step-clause-honest : goal.returns-in_err-send_step-clause-honest
returns-in_err-send_step-clause-honest g c h can =
    let V = g.R.Rig.view in
    let n = length c.args.buf.now in
    let d = (V c.args.rig.now).device in
    let is = (g.met.R.Rig.model c.args.rig.now h).device in
    let one = c.in_ok-send_address.ensures.waits h (takes-address c.args.address n d c.requires.some (tells c.args.address n d can)) in
    let P : Unit {0} → Type 0 = λ _. HasRead c.args.address c.args.buf.now d (V c.send_step.new.rig).device in
    does_line P c.from_residual-in_err-send_step.result c.in_err-send_step.field-0.0 c.from_residual-in_err-send_step.ensures.1
    (c.in_err-send_step.ensures.line (c.in_ok-send_address.ensures.held.honestly h).honest (count-first c.args.address n d c.requires.some is (tells c.args.address n d can) (V c.send_address.new.rig).device one))

pub returns-clause-held : goal.returns-clause-held
returns-clause-held g c =
    let V = g.R.Rig.view in
    let n = length c.args.buf.now in
    let full : length c.fill.new.buf ≡ n = search rules in
    on_ok_weaker c.fill.result
    (read_held c.args.address n (V c.args.rig.now) (V c.send_address.new.rig) (V c.send_step.new.rig) (V c.fill.new.rig) c.in_ok-send_address.ensures.held c.in_ok-send_step.ensures.held c.fill.new.buf full)
    c.fill.ensures.held

pub returns-clause-broken : goal.returns-clause-broken
returns-clause-broken g c =
    let V = g.R.Rig.view in
    let n = length c.args.buf.now in
    let Q : WireFault → Type 0 = λ fault. (answer : List ℕ) × (length answer ≡ n) × BreaksOff fault [] (learns answer) (V c.send_step.new.rig) (V c.fill.new.rig) in
    let P : WireFault → Type 0 = λ fault. (answer : List ℕ) × (length answer ≡ n) × BreaksOff fault (read_frame c.args.address n) (read_turns c.args.address answer) (V c.args.rig.now) (V c.fill.new.rig) in
    if_err_weaker Q P c.fill.result
    (read_broken-3 c.args.address n (V c.args.rig.now) (V c.send_address.new.rig) (V c.send_step.new.rig) (V c.fill.new.rig) c.in_ok-send_address.ensures.held c.in_ok-send_step.ensures.held)
    c.fill.ensures.broken

pub returns-clause-honest : goal.returns-clause-honest
returns-clause-honest g c h can =
    let V = g.R.Rig.view in
    let n = length c.args.buf.now in
    let d = (V c.args.rig.now).device in
    let is = (g.met.R.Rig.model c.args.rig.now h).device in
    let some = c.requires.some in
    let one = c.in_ok-send_address.ensures.waits h (takes-address c.args.address n d some (tells c.args.address n d can)) in
    let h1 = (c.in_ok-send_address.ensures.held.honestly h).honest in
    let h2 = (c.in_ok-send_step.ensures.held.honestly h1).honest in
    let two = count-step c.args.address n d some is (tells c.args.address n d can) (V c.send_address.new.rig).device (V c.send_step.new.rig).device one (c.in_ok-send_step.ensures.acknowledged h1) in
    let full : length c.fill.new.buf ≡ n = search rules in
    let many : n ≤ length (V c.send_step.new.rig).device.owed = rw two (le_of_eq (sym (length-told c.args.address n d some is (tells c.args.address n d can)))) in
    let P : Unit {0} → Type 0 = λ _. HasRead c.args.address c.fill.new.buf d (V c.fill.new.rig).device in
    let Q : Type 0 = (V c.send_step.new.rig).device ≡ owing c.fill.new.buf (V c.fill.new.rig).device in
    does_last P Q c.fill.result (c.fill.ensures.line h2 many) (c.fill.ensures.bytes h2)
    (λ u q. has_read c.args.address n d some is can c.fill.new.buf (V c.send_step.new.rig).device (V c.fill.new.rig).device full two q)
