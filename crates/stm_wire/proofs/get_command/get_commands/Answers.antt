use Rattle.std.proofs.Common.{rules, ◌≡◌, ◌<◌, arith, ◌∷◌, [], ◌++◌, ℕ, List, length, take, refl, ap}
use Rattle.stm_wire.proofs.Names.{ack, BreaksOff, command, Commands, Device, Expects, get_turns, learns, step_turns, WireFault}
use Rattle.stm_wire.proofs.Holding.{Holds-then, BreaksOff-early, BreaksOff-then, on_fault}
use Rattle.stm_wire.proofs.Answering.{does_line}
use Rattle.stm_wire.proofs.Asking.{asked-first, asked-step, codes_owed, codes_answered}
use Rattle.stm_wire.proofs.get_command.get_commands.Goals as goal

pub returns-in_err-send_step-clause-broken : goal.returns-in_err-send_step-clause-broken
returns-in_err-send_step-clause-broken g c =
    let V = g.R.Rig.view in
    let e = c.in_err-send_step.field-0.0 in
    let P : WireFault → Type 0 = λ fault. (version : ℕ) × (codes : List ℕ) × (length codes < 256) × BreaksOff fault (command 0x00) (get_turns version codes) (V c.args.rig.now) (V c.send_step.new.rig) in
    let sent = BreaksOff-early e (command 0x00) (step_turns (command 0x00)) (learns (0 ∷ 0 ∷ [])) (V c.args.rig.now) (V c.send_step.new.rig) c.in_err-send_step.ensures.broken in
    on_fault P c.from_residual.result e c.from_residual.ensures.1
    (0, [], omega arith, BreaksOff-early e (command 0x00) (step_turns (command 0x00) ++ learns (0 ∷ 0 ∷ [])) (Expects ack ∷ []) (V c.args.rig.now) (V c.send_step.new.rig) sent)

pub returns-in_err-send_step-clause-honest : goal.returns-in_err-send_step-clause-honest
returns-in_err-send_step-clause-honest g c h settled =
    let V = g.R.Rig.view in
    let d = (V c.args.rig.now).device in
    let is = (g.met.R.Rig.model c.args.rig.now h).device in
    let P : Commands → Type 0 = λ x. (x.version ≡ d.version) × (take x.count x.codes ≡ d.codes) × ((V c.send_step.new.rig).device ≡ d) in
    does_line P c.from_residual.result c.in_err-send_step.field-0.0 c.from_residual.ensures.1
    (c.in_err-send_step.ensures.line h (asked-first 0x00 d settled is.get refl refl refl))

pub returns-in_err-commands-clause-broken : goal.returns-in_err-commands-clause-broken
returns-in_err-commands-clause-broken g c =
    let V = g.R.Rig.view in
    let e = c.in_err-commands.field-0.0 in
    let old = V c.args.rig.now in
    let new = V c.receive_commands.new.rig in
    let P : WireFault → Type 0 = λ fault. (version : ℕ) × (codes : List ℕ) × (length codes < 256) × BreaksOff fault (command 0x00) (get_turns version codes) old new in
    let p = c.in_err-commands.ensures.broken in
    let answer = learns (length p.1 ∷ p.0 ∷ p.1) in
    on_fault P c.from_residual-in_err-commands.result e c.from_residual-in_err-commands.ensures.1 (
      p.0,
      p.1,
      p.2,
      BreaksOff-early e (command 0x00) (step_turns (command 0x00) ++ answer) (Expects ack ∷ []) old new
          (BreaksOff-then e (command 0x00) (step_turns (command 0x00)) answer old (V c.send_step.new.rig) new c.in_ok-send_step.ensures.held p.3),
    )

pub returns-in_err-commands-clause-honest : goal.returns-in_err-commands-clause-honest
returns-in_err-commands-clause-honest g c h settled =
    let V = g.R.Rig.view in
    let d = (V c.args.rig.now).device in
    let is = (g.met.R.Rig.model c.args.rig.now h).device in
    let mid = (V c.send_step.new.rig).device in
    let h1 = (c.in_ok-send_step.ensures.held.honestly h).honest in
    let asked = asked-step 0x00 d settled is.get refl refl refl mid (c.in_ok-send_step.ensures.acknowledged h) in
    let P : Commands → Type 0 = λ x. (x.version ≡ d.version) × (take x.count x.codes ≡ d.codes) × ((V c.receive_commands.new.rig).device ≡ d) in
    does_line P c.from_residual-in_err-commands.result c.in_err-commands.field-0.0 c.from_residual-in_err-commands.ensures.1
    (c.in_err-commands.ensures.line h1 d.version d.codes (ack ∷ []) (ap (λ (e : Device). e.owed) asked))

pub returns-in_err-expect_byte-clause-broken : goal.returns-in_err-expect_byte-clause-broken
returns-in_err-expect_byte-clause-broken g c =
    let V = g.R.Rig.view in
    let small : length (take c.in_ok-commands.commands.count c.in_ok-commands.commands.codes) < 256 = search rules in
    let e = c.in_err-expect_byte.field-0.0 in
    let old = V c.args.rig.now in
    let mid = V c.receive_commands.new.rig in
    let new = V c.expect_byte.new.rig in
    let version : ℕ = c.in_ok-commands.commands.version in
    let codes : List ℕ = take c.in_ok-commands.commands.count c.in_ok-commands.commands.codes in
    let P : WireFault → Type 0 = λ fault. (version : ℕ) × (codes : List ℕ) × (length codes < 256) × BreaksOff fault (command 0x00) (get_turns version codes) old new in
    let answer = learns (length codes ∷ version ∷ codes) in
    let first = Holds-then (command 0x00) (step_turns (command 0x00)) answer old (V c.send_step.new.rig) mid c.in_ok-send_step.ensures.held c.in_ok-commands.ensures.held in
    on_fault P c.from_residual-in_err-expect_byte.result e c.from_residual-in_err-expect_byte.ensures.1
    (version, codes, small, BreaksOff-then e (command 0x00) (step_turns (command 0x00) ++ answer) (Expects ack ∷ []) old mid new first c.in_err-expect_byte.ensures.broken)

pub returns-in_err-expect_byte-clause-honest : goal.returns-in_err-expect_byte-clause-honest
returns-in_err-expect_byte-clause-honest g c h settled =
    let V = g.R.Rig.view in
    let d = (V c.args.rig.now).device in
    let is = (g.met.R.Rig.model c.args.rig.now h).device in
    let mid = (V c.send_step.new.rig).device in
    let last = (V c.receive_commands.new.rig).device in
    let version : ℕ = c.in_ok-commands.commands.version in
    let codes : List ℕ = take c.in_ok-commands.commands.count c.in_ok-commands.commands.codes in
    let h1 = (c.in_ok-send_step.ensures.held.honestly h).honest in
    let h2 = (c.in_ok-commands.ensures.held.honestly h1).honest in
    let asked = asked-step 0x00 d settled is.get refl refl refl mid (c.in_ok-send_step.ensures.acknowledged h) in
    let P : Commands → Type 0 = λ x. (x.version ≡ d.version) × (take x.count x.codes ≡ d.codes) × ((V c.expect_byte.new.rig).device ≡ d) in
    does_line P c.from_residual-in_err-expect_byte.result c.in_err-expect_byte.field-0.0 c.from_residual-in_err-expect_byte.ensures.1
    (c.in_err-expect_byte.ensures.line h2 (codes_owed version codes d mid last asked (c.in_ok-commands.ensures.bytes h1)))

pub returns-clause-held : goal.returns-clause-held
returns-clause-held g c =
    let V = g.R.Rig.view in
    let old = V c.args.rig.now in
    let mid = V c.receive_commands.new.rig in
    let new = V c.expect_byte.new.rig in
    let version : ℕ = c.in_ok-commands.commands.version in
    let codes : List ℕ = take c.in_ok-commands.commands.count c.in_ok-commands.commands.codes in
    let answer = learns (length codes ∷ version ∷ codes) in
    let first = Holds-then (command 0x00) (step_turns (command 0x00)) answer old (V c.send_step.new.rig) mid c.in_ok-send_step.ensures.held c.in_ok-commands.ensures.held in
    Holds-then (command 0x00) (step_turns (command 0x00) ++ answer) (Expects ack ∷ []) old mid new first c.in_ok-expect_byte.ensures.held

pub returns-clause-honest : goal.returns-clause-honest
returns-clause-honest g c h settled =
    let V = g.R.Rig.view in
    let d = (V c.args.rig.now).device in
    let is = (g.met.R.Rig.model c.args.rig.now h).device in
    let mid = (V c.send_step.new.rig).device in
    let last = (V c.receive_commands.new.rig).device in
    let new = (V c.expect_byte.new.rig).device in
    let version : ℕ = c.in_ok-commands.commands.version in
    let codes : List ℕ = take c.in_ok-commands.commands.count c.in_ok-commands.commands.codes in
    let h1 = (c.in_ok-send_step.ensures.held.honestly h).honest in
    let h2 = (c.in_ok-commands.ensures.held.honestly h1).honest in
    let asked = asked-step 0x00 d settled is.get refl refl refl mid (c.in_ok-send_step.ensures.acknowledged h) in
    record { fails = tt; done = codes_answered version codes d mid last new settled asked (c.in_ok-commands.ensures.bytes h1) (c.in_ok-expect_byte.ensures.expected h2) }
