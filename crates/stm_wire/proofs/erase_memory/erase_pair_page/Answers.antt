use Rattle.std.proofs.Common.{◌∷◌, [], ◌≡◌, ◌/◌, ◌%◌, ℕ, List}
use Rattle.std.proofs.lemmas.Result.{on_ok_weaker}
use Rattle.stm_wire.specs.declared.chip.EraseKind.TheVariants.{Extended}
use Rattle.stm_wire.proofs.Names.{BreaksOff, command, erase_frame, erase_turns, step_turns, WireFault, with_checksum, with_pages_erased}
use Rattle.stm_wire.proofs.Holding.{Holds-append, BreaksOff-first, BreaksOff-second, on_fault, if_err_weaker}
use Rattle.stm_wire.proofs.Answering.{does_line, does_last}
use Rattle.stm_wire.proofs.Address.{settled-is}
use Rattle.stm_wire.proofs.Steps.{code-first, code-step}
use Rattle.stm_wire.proofs.Erasing.{pages-first, pages-step, pair-code, pair-ends}
use Rattle.stm_wire.proofs.erase_memory.erase_pair_page.Goals as goal

pub returns-in_err-send_step-clause-broken : goal.returns-in_err-send_step-clause-broken
returns-in_err-send_step-clause-broken g c =
    let V = g.R.Rig.view in
    let rest : List ℕ = with_checksum (0 ∷ 0 ∷ c.args.n / 256 ∷ c.args.n % 256 ∷ []) in
    let e = c.in_err-send_step.field-0.0 in
    let P : WireFault → Type 0 = λ fault. BreaksOff fault (erase_frame Extended c.args.n) (erase_turns Extended c.args.n) (V c.args.rig.now) (V c.send_step.new.rig) in
    on_fault P c.from_residual.result e c.from_residual.ensures.1
    (BreaksOff-first e (command 0x44) rest (step_turns (command 0x44)) (step_turns rest) (V c.args.rig.now) (V c.send_step.new.rig) c.in_err-send_step.ensures.broken)

pub returns-in_err-send_step-clause-honest : goal.returns-in_err-send_step-clause-honest
returns-in_err-send_step-clause-honest g c h can =
    let V = g.R.Rig.view in
    let d = (V c.args.rig.now).device in
    let is = (g.met.R.Rig.model c.args.rig.now h).device in
    let P : Unit {0} → Type 0 = λ _. (V c.send_step.new.rig).device ≡ with_pages_erased (c.args.n ∷ []) d in
    does_line P c.from_residual.result c.in_err-send_step.field-0.0 c.from_residual.ensures.1
    (c.in_err-send_step.ensures.line h (code-first 0x44 d (settled-is d can.settled) (pair-code c.args.n d is can)))

pub returns-clause-held : goal.returns-clause-held
returns-clause-held g c =
    let V = g.R.Rig.view in
    let rest : List ℕ = with_checksum (0 ∷ 0 ∷ c.args.n / 256 ∷ c.args.n % 256 ∷ []) in
    on_ok_weaker c.send_step-2.result
    (Holds-append (command 0x44) rest (step_turns (command 0x44)) (step_turns rest) (V c.args.rig.now) (V c.send_step.new.rig) (V c.send_step-2.new.rig) c.in_ok-send_step.ensures.held)
    (rw c.pages_step.ensures at c.send_step-2.ensures.held)

pub returns-clause-broken : goal.returns-clause-broken
returns-clause-broken g c =
    let V = g.R.Rig.view in
    let rest : List ℕ = with_checksum (0 ∷ 0 ∷ c.args.n / 256 ∷ c.args.n % 256 ∷ []) in
    let Q : WireFault → Type 0 = λ fault. BreaksOff fault rest (step_turns rest) (V c.send_step.new.rig) (V c.send_step-2.new.rig) in
    let P : WireFault → Type 0 = λ fault. BreaksOff fault (erase_frame Extended c.args.n) (erase_turns Extended c.args.n) (V c.args.rig.now) (V c.send_step-2.new.rig) in
    if_err_weaker Q P c.send_step-2.result
    (λ e. BreaksOff-second e (command 0x44) rest (step_turns (command 0x44)) (step_turns rest) (V c.args.rig.now) (V c.send_step.new.rig) (V c.send_step-2.new.rig) c.in_ok-send_step.ensures.held)
    (rw c.pages_step.ensures at c.send_step-2.ensures.broken)

pub returns-clause-honest : goal.returns-clause-honest
returns-clause-honest g c h can =
    let V = g.R.Rig.view in
    let rest : List ℕ = with_checksum (0 ∷ 0 ∷ c.args.n / 256 ∷ c.args.n % 256 ∷ []) in
    let d = (V c.args.rig.now).device in
    let is = (g.met.R.Rig.model c.args.rig.now h).device in
    let settled = settled-is d can.settled in
    let one = code-step 0x44 d settled (pair-code c.args.n d is can) (V c.send_step.new.rig).device (c.in_ok-send_step.ensures.acknowledged h) in
    let h1 = (c.in_ok-send_step.ensures.held.honestly h).honest in
    let new = (V c.send_step-2.new.rig).device in
    let P : Unit {0} → Type 0 = λ _. new ≡ with_pages_erased (c.args.n ∷ []) d in
    does_last P (P tt) c.send_step-2.result
    ((rw c.pages_step.ensures at c.send_step-2.ensures.line) h1 (pages-first c.args.n 0x44 d settled rest (pair-ends c.args.n d is can) (V c.send_step.new.rig).device one))
    (on_ok_weaker c.send_step-2.result (pages-step c.args.n 0x44 d settled rest (pair-ends c.args.n d is can) (V c.send_step.new.rig).device new one) ((rw c.pages_step.ensures at c.send_step-2.ensures.acknowledged) h1))
    (λ u q. q)
