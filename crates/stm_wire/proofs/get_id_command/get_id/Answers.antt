use Rattle.std.proofs.Common.{◌≡◌, ◌/◌, ◌%◌, ◌∷◌, [], ℕ, refl, ap}
use Rattle.stm_wire.proofs.Names.{ack, BreaksOff, command, Device, Expects, get_id_turns, IsHeldToEnd, Learns, owing, step_turns, WireFault}
use Rattle.stm_wire.proofs.Holding.{Holds-then, BreaksOff-early, BreaksOff-then, on_fault, if_err_weaker}
use Rattle.stm_wire.proofs.Answering.{does_line, does_value, if_ok_weaker}
use Rattle.stm_wire.proofs.Asking.{asked-first, asked-step, id_answered}
use Rattle.stm_wire.proofs.get_id_command.get_id.Goals as goal

pub returns-in_err-send_step-clause-broken : goal.returns-in_err-send_step-clause-broken
returns-in_err-send_step-clause-broken g c =
    let V = g.R.Rig.view in
    let e = c.in_err-send_step.field-0.0 in
    let P : WireFault → Type 0 = λ fault. (high : ℕ) × (low : ℕ) × BreaksOff fault (command 0x02) (get_id_turns high low) (V c.args.rig.now) (V c.send_step.new.rig) in
    on_fault P c.from_residual.result e c.from_residual.ensures.1
    (0, 0, BreaksOff-early e (command 0x02) (step_turns (command 0x02)) (Expects 1 ∷ Learns 0 ∷ Learns 0 ∷ Expects ack ∷ []) (V c.args.rig.now) (V c.send_step.new.rig) c.in_err-send_step.ensures.broken)

pub returns-in_err-send_step-clause-honest : goal.returns-in_err-send_step-clause-honest
returns-in_err-send_step-clause-honest g c h settled =
    let V = g.R.Rig.view in
    let d = (V c.args.rig.now).device in
    let is = (g.met.R.Rig.model c.args.rig.now h).device in
    let P : ℕ → Type 0 = λ id. (id ≡ d.chip.id) × ((V c.send_step.new.rig).device ≡ d) in
    does_line P c.from_residual.result c.in_err-send_step.field-0.0 c.from_residual.ensures.1
    (c.in_err-send_step.ensures.line h (asked-first 0x02 d settled is.get_id refl refl refl))

pub returns-clause-held : goal.returns-clause-held
returns-clause-held g c =
    let V = g.R.Rig.view in
    let old = V c.args.rig.now in
    let new = V c.receive_id.new.rig in
    let P : ℕ → Type 0 = λ id. IsHeldToEnd [] (Expects 1 ∷ Learns (id / 256) ∷ Learns (id % 256) ∷ Expects ack ∷ []) (V c.send_step.new.rig) new in
    let Q : ℕ → Type 0 = λ id. IsHeldToEnd (command 0x02) (get_id_turns (id / 256) (id % 256)) old new in
    if_ok_weaker P Q c.receive_id.result
    (λ id. Holds-then (command 0x02) (step_turns (command 0x02)) (Expects 1 ∷ Learns (id / 256) ∷ Learns (id % 256) ∷ Expects ack ∷ []) old (V c.send_step.new.rig) new c.in_ok-send_step.ensures.held)
    c.receive_id.ensures.held

pub returns-clause-broken : goal.returns-clause-broken
returns-clause-broken g c =
    let V = g.R.Rig.view in
    let old = V c.args.rig.now in
    let new = V c.receive_id.new.rig in
    let P : WireFault → Type 0 = λ fault. (high : ℕ) × (low : ℕ) × BreaksOff fault [] (Expects 1 ∷ Learns high ∷ Learns low ∷ Expects ack ∷ []) (V c.send_step.new.rig) new in
    let Q : WireFault → Type 0 = λ fault. (high : ℕ) × (low : ℕ) × BreaksOff fault (command 0x02) (get_id_turns high low) old new in
    if_err_weaker P Q c.receive_id.result
    (λ e p. (p.0, p.1, BreaksOff-then e (command 0x02) (step_turns (command 0x02)) (Expects 1 ∷ Learns p.0 ∷ Learns p.1 ∷ Expects ack ∷ []) old (V c.send_step.new.rig) new c.in_ok-send_step.ensures.held p.2))
    c.receive_id.ensures.broken

pub returns-clause-honest : goal.returns-clause-honest
returns-clause-honest g c h settled =
    let V = g.R.Rig.view in
    let d = (V c.args.rig.now).device in
    let is = (g.met.R.Rig.model c.args.rig.now h).device in
    let mid = (V c.send_step.new.rig).device in
    let new = (V c.receive_id.new.rig).device in
    let h1 = (c.in_ok-send_step.ensures.held.honestly h).honest in
    let asked = asked-step 0x02 d settled is.get_id refl refl refl mid (c.in_ok-send_step.ensures.acknowledged h) in
    let owed : mid.owed ≡ 1 ∷ d.chip.id / 256 ∷ d.chip.id % 256 ∷ ack ∷ [] = ap (λ (e : Device). e.owed) asked in
    let P : ℕ → Type 0 = λ id. mid ≡ owing (1 ∷ id / 256 ∷ id % 256 ∷ ack ∷ []) new in
    let Q : ℕ → Type 0 = λ id. (id ≡ d.chip.id) × (new ≡ d) in
    does_value P Q c.receive_id.result (c.receive_id.ensures.line h1 (d.chip.id / 256) (d.chip.id % 256) owed) (c.receive_id.ensures.bytes h1)
    (λ id taken. id_answered id d mid new settled asked taken)
