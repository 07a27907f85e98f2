use Rattle.std.proofs.Common.{◌≡◌, ◌≤◌, ◌-◌, ◌++◌, ◌∷◌, [], ℕ, Bool, true, false, List, length, rules, refl, sym, subst, le_of_eq}
use Rattle.stm_wire.proofs.Names.{address_bytes, address_turns, answer_byte, answered_turns, at_address, at_count, BreaksOff, CanTell, command, Fed, IsHeldToEnd, owing, read_frame, read_head}
use Rattle.stm_wire.proofs.Names.{read_turns, refused_turns, step_turns, WireFault, with_checksum}
use Rattle.stm_wire.proofs.Holding.{Holds-append, BreaksOff-first, BreaksOff-second, on_fault}
use Rattle.stm_wire.proofs.Reading.{has_told, length-told, read_broken, read_broken-2, read_broken-3, read_held}
use Rattle.stm_wire.proofs.RefusableReads.{address_answers, address_refused, address_told, asked_failed, code_answers, code_told, count_answers, count_refused, count_told, frame_sent, head_sent, part_all, part_first}
use Rattle.stm_wire.proofs.Tellings.{unreadable}
use Rattle.stm_wire.proofs.refusable_read.read_unless_refused.Goals as goal

pub returns-in_err-send_refusable-clause-broken : goal.returns-in_err-send_refusable-clause-broken
returns-in_err-send_refusable-clause-broken g c =
    let V = g.R.Rig.view in
    let address = c.args.address in
    let n = length c.args.buf.now in
    let a = V c.args.rig.now in
    let b = V c.send_refusable.new.rig in
    let code = command 0x11 in
    let place = with_checksum (address_bytes address) in
    let count = command (n - 1) in
    let P : WireFault → Type 0 = λ fault. (answer : List ℕ) × (length answer ≡ n) × BreaksOff fault (read_frame address n) (read_turns address answer) a b in
    let fault = c.in_err-send_refusable.field-0.0 in
    on_fault P c.from_residual.result fault c.from_residual.ensures.1
    (read_broken fault address n a b (BreaksOff-first fault code place (step_turns code) (step_turns place) a b c.in_err-send_refusable.ensures.broken))

pub returns-in_err-send_refusable-clause-honest : goal.returns-in_err-send_refusable-clause-honest
returns-in_err-send_refusable-clause-honest g c h settled =
    let V = g.R.Rig.view in
    let address = c.args.address in
    let n = length c.args.buf.now in
    let a = V c.args.rig.now in
    let b = V c.send_refusable.new.rig in
    let code = command 0x11 in
    let place = with_checksum (address_bytes address) in
    let count = command (n - 1) in
    let is = (g.met.R.Rig.model c.args.rig.now h).device in
    let part = part_first code place a b (c.in_err-send_refusable.ensures.broken.honestly h) in
    asked_failed address n _ a b c.in_err-send_refusable.field-0.0 c.from_residual.result c.from_residual.ensures.1
    (head_sent address n a.device.chip a b part) (c.in_err-send_refusable.ensures.line h (code_answers address a.device is settled))

pub returns-in_err-send_refusable-2-clause-broken : goal.returns-in_err-send_refusable-2-clause-broken
returns-in_err-send_refusable-2-clause-broken g c =
    let V = g.R.Rig.view in
    let address = c.args.address in
    let n = length c.args.buf.now in
    let a = V c.args.rig.now in
    let b = V c.send_refusable.new.rig in
    let code = command 0x11 in
    let place = with_checksum (address_bytes address) in
    let count = command (n - 1) in
    let d = V c.send_refusable-2.new.rig in
    let told1 : c.in_ok-send_refusable.field-0 ≡ true = search rules in
    let H1 : Bool → Type 0 = λ t. IsHeldToEnd code (answered_turns t code) a b in
    let held1 = subst H1 told1 c.in_ok-send_refusable.ensures.held in
    let P : WireFault → Type 0 = λ fault. (answer : List ℕ) × (length answer ≡ n) × BreaksOff fault (read_frame address n) (read_turns address answer) a d in
    let fault = c.in_err-send_refusable-2.field-0.0 in
    let broken = rw c.address_step.ensures at c.in_err-send_refusable-2.ensures.broken in
    on_fault P c.from_residual-in_err-send_refusable-2.result fault c.from_residual-in_err-send_refusable-2.ensures.1
    (read_broken fault address n a d (BreaksOff-second fault code place (step_turns code) (step_turns place) a b d held1 broken))

pub returns-in_err-send_refusable-2-clause-honest : goal.returns-in_err-send_refusable-2-clause-honest
returns-in_err-send_refusable-2-clause-honest g c h settled =
    let V = g.R.Rig.view in
    let address = c.args.address in
    let n = length c.args.buf.now in
    let a = V c.args.rig.now in
    let b = V c.send_refusable.new.rig in
    let code = command 0x11 in
    let place = with_checksum (address_bytes address) in
    let count = command (n - 1) in
    let d = V c.send_refusable-2.new.rig in
    let told1 : c.in_ok-send_refusable.field-0 ≡ true = search rules in
    let H1 : Bool → Type 0 = λ t. IsHeldToEnd code (answered_turns t code) a b in
    let held1 = subst H1 told1 c.in_ok-send_refusable.ensures.held in
    let is = (g.met.R.Rig.model c.args.rig.now h).device in
    let h1 = (held1.honestly h).honest in
    let F1 : Bool → Type 0 = λ t. Fed code a.device (owing (answer_byte t ∷ []) b.device) in
    let at1 = code_told address a.device is settled b.device (subst F1 told1 (c.in_ok-send_refusable.ensures.answered h)) in
    let fault = c.in_err-send_refusable-2.field-0.0 in
    let broken = rw c.address_step.ensures at c.in_err-send_refusable-2.ensures.broken in
    let line = rw c.address_step.ensures at c.in_err-send_refusable-2.ensures.line in
    let part = (BreaksOff-second fault code place (step_turns code) (step_turns place) a b d held1 broken).honestly h in
    asked_failed address n _ a d fault c.from_residual-in_err-send_refusable-2.result c.from_residual-in_err-send_refusable-2.ensures.1
    (head_sent address n a.device.chip a d part) (line h1 (address_answers address a.device is settled b.device at1))

pub returns-then-not-branch-2-clause-held : goal.returns-then-not-branch-2-clause-held
returns-then-not-branch-2-clause-held g c =
    let V = g.R.Rig.view in
    let address = c.args.address in
    let n = length c.args.buf.now in
    let a = V c.args.rig.now in
    let b = V c.send_refusable.new.rig in
    let code = command 0x11 in
    let place = with_checksum (address_bytes address) in
    let count = command (n - 1) in
    let d = V c.send_refusable-2.new.rig in
    let told1 : c.in_ok-send_refusable.field-0 ≡ true = search rules in
    let H1 : Bool → Type 0 = λ t. IsHeldToEnd code (answered_turns t code) a b in
    let held1 = subst H1 told1 c.in_ok-send_refusable.ensures.held in
    let told2 : c.in_ok-send_refusable-2.field-0 ≡ false = search rules in
    let H2 : Bool → Type 0 = λ t. IsHeldToEnd place (answered_turns t place) b d in
    let held2 = subst H2 told2 (rw c.address_step.ensures at c.in_ok-send_refusable-2.ensures.held) in
    let turns = step_turns code ++ refused_turns place in
    (read_head address, turns, at_address refl refl, Holds-append code place (step_turns code) (refused_turns place) a b d held1 held2)

pub returns-then-not-branch-2-clause-honest : goal.returns-then-not-branch-2-clause-honest
returns-then-not-branch-2-clause-honest g c h settled =
    let V = g.R.Rig.view in
    let address = c.args.address in
    let n = length c.args.buf.now in
    let a = V c.args.rig.now in
    let b = V c.send_refusable.new.rig in
    let code = command 0x11 in
    let place = with_checksum (address_bytes address) in
    let count = command (n - 1) in
    let d = V c.send_refusable-2.new.rig in
    let told1 : c.in_ok-send_refusable.field-0 ≡ true = search rules in
    let H1 : Bool → Type 0 = λ t. IsHeldToEnd code (answered_turns t code) a b in
    let held1 = subst H1 told1 c.in_ok-send_refusable.ensures.held in
    let is = (g.met.R.Rig.model c.args.rig.now h).device in
    let h1 = (held1.honestly h).honest in
    let F1 : Bool → Type 0 = λ t. Fed code a.device (owing (answer_byte t ∷ []) b.device) in
    let at1 = code_told address a.device is settled b.device (subst F1 told1 (c.in_ok-send_refusable.ensures.answered h)) in
    let told2 : c.in_ok-send_refusable-2.field-0 ≡ false = search rules in
    let H2 : Bool → Type 0 = λ t. IsHeldToEnd place (answered_turns t place) b d in
    let held2 = subst H2 told2 (rw c.address_step.ensures at c.in_ok-send_refusable-2.ensures.held) in
    let h2 = (held2.honestly h1).honest in
    let F2 : Bool → Type 0 = λ t. Fed place b.device (owing (answer_byte t ∷ []) d.device) in
    let fed2 = subst F2 told2 ((rw c.address_step.ensures at c.in_ok-send_refusable-2.ensures.answered) h1) in
    let at2 = address_refused address a.device is settled b.device d.device at1 fed2 in
    let all = Holds-append code place (step_turns code) (refused_turns place) a b d held1 held2 in
    record { sent = head_sent address n a.device.chip a d (part_all (read_head address) a d (all.honestly h)); same = at2.1; told = unreadable a.device.chip address n c.requires.some at2.0; fails = tt }

pub returns-in_err-send_refusable-3-clause-broken : goal.returns-in_err-send_refusable-3-clause-broken
returns-in_err-send_refusable-3-clause-broken g c =
    let V = g.R.Rig.view in
    let address = c.args.address in
    let n = length c.args.buf.now in
    let a = V c.args.rig.now in
    let b = V c.send_refusable.new.rig in
    let code = command 0x11 in
    let place = with_checksum (address_bytes address) in
    let count = command (n - 1) in
    let d = V c.send_refusable-2.new.rig in
    let e = V c.send_refusable-3.new.rig in
    let told1 : c.in_ok-send_refusable.field-0 ≡ true = search rules in
    let H1 : Bool → Type 0 = λ t. IsHeldToEnd code (answered_turns t code) a b in
    let held1 = subst H1 told1 c.in_ok-send_refusable.ensures.held in
    let told2 : c.in_ok-send_refusable-2.field-0 ≡ true = search rules in
    let H2 : Bool → Type 0 = λ t. IsHeldToEnd place (answered_turns t place) b d in
    let held2 = subst H2 told2 (rw c.address_step.ensures at c.in_ok-send_refusable-2.ensures.held) in
    let head2 = Holds-append code place (step_turns code) (step_turns place) a b d held1 held2 in
    let P : WireFault → Type 0 = λ fault. (answer : List ℕ) × (length answer ≡ n) × BreaksOff fault (read_frame address n) (read_turns address answer) a e in
    let fault = c.in_err-send_refusable-3.field-0.0 in
    on_fault P c.from_residual-in_err-send_refusable-3.result fault c.from_residual-in_err-send_refusable-3.ensures.1
    (read_broken-2 fault address n a d e head2 c.in_err-send_refusable-3.ensures.broken)

pub returns-in_err-send_refusable-3-clause-honest : goal.returns-in_err-send_refusable-3-clause-honest
returns-in_err-send_refusable-3-clause-honest g c h settled =
    let V = g.R.Rig.view in
    let address = c.args.address in
    let n = length c.args.buf.now in
    let a = V c.args.rig.now in
    let b = V c.send_refusable.new.rig in
    let code = command 0x11 in
    let place = with_checksum (address_bytes address) in
    let count = command (n - 1) in
    let d = V c.send_refusable-2.new.rig in
    let e = V c.send_refusable-3.new.rig in
    let told1 : c.in_ok-send_refusable.field-0 ≡ true = search rules in
    let H1 : Bool → Type 0 = λ t. IsHeldToEnd code (answered_turns t code) a b in
    let held1 = subst H1 told1 c.in_ok-send_refusable.ensures.held in
    let is = (g.met.R.Rig.model c.args.rig.now h).device in
    let h1 = (held1.honestly h).honest in
    let F1 : Bool → Type 0 = λ t. Fed code a.device (owing (answer_byte t ∷ []) b.device) in
    let at1 = code_told address a.device is settled b.device (subst F1 told1 (c.in_ok-send_refusable.ensures.answered h)) in
    let told2 : c.in_ok-send_refusable-2.field-0 ≡ true = search rules in
    let H2 : Bool → Type 0 = λ t. IsHeldToEnd place (answered_turns t place) b d in
    let held2 = subst H2 told2 (rw c.address_step.ensures at c.in_ok-send_refusable-2.ensures.held) in
    let h2 = (held2.honestly h1).honest in
    let F2 : Bool → Type 0 = λ t. Fed place b.device (owing (answer_byte t ∷ []) d.device) in
    let fed2 = subst F2 told2 ((rw c.address_step.ensures at c.in_ok-send_refusable-2.ensures.answered) h1) in
    let at2 = address_told address a.device is settled b.device d.device at1 fed2 in
    let head2 = Holds-append code place (step_turns code) (step_turns place) a b d held1 held2 in
    let fault = c.in_err-send_refusable-3.field-0.0 in
    let part = (BreaksOff-second fault (read_head address) count (address_turns 0x11 address) (step_turns count) a d e head2 c.in_err-send_refusable-3.ensures.broken).honestly h in
    asked_failed address n _ a e fault c.from_residual-in_err-send_refusable-3.result c.from_residual-in_err-send_refusable-3.ensures.1
    (frame_sent address n a.device.chip a e at2.0 part) (c.in_err-send_refusable-3.ensures.line h2 (count_answers address a.device is settled n c.requires.some at2.0 d.device at2.1))

pub returns-then-not-branch-3-clause-held : goal.returns-then-not-branch-3-clause-held
returns-then-not-branch-3-clause-held g c =
    let V = g.R.Rig.view in
    let address = c.args.address in
    let n = length c.args.buf.now in
    let a = V c.args.rig.now in
    let b = V c.send_refusable.new.rig in
    let code = command 0x11 in
    let place = with_checksum (address_bytes address) in
    let count = command (n - 1) in
    let d = V c.send_refusable-2.new.rig in
    let e = V c.send_refusable-3.new.rig in
    let told1 : c.in_ok-send_refusable.field-0 ≡ true = search rules in
    let H1 : Bool → Type 0 = λ t. IsHeldToEnd code (answered_turns t code) a b in
    let held1 = subst H1 told1 c.in_ok-send_refusable.ensures.held in
    let told2 : c.in_ok-send_refusable-2.field-0 ≡ true = search rules in
    let H2 : Bool → Type 0 = λ t. IsHeldToEnd place (answered_turns t place) b d in
    let held2 = subst H2 told2 (rw c.address_step.ensures at c.in_ok-send_refusable-2.ensures.held) in
    let head2 = Holds-append code place (step_turns code) (step_turns place) a b d held1 held2 in
    let told3 : c.in_ok-send_refusable-3.field-0 ≡ false = search rules in
    let H3 : Bool → Type 0 = λ t. IsHeldToEnd count (answered_turns t count) d e in
    let held3 = subst H3 told3 c.in_ok-send_refusable-3.ensures.held in
    let turns = address_turns 0x11 address ++ refused_turns count in
    (read_frame address n, turns, at_count refl refl, Holds-append (read_head address) count (address_turns 0x11 address) (refused_turns count) a d e head2 held3)

pub returns-then-not-branch-3-clause-honest : goal.returns-then-not-branch-3-clause-honest
returns-then-not-branch-3-clause-honest g c h settled =
    let V = g.R.Rig.view in
    let address = c.args.address in
    let n = length c.args.buf.now in
    let a = V c.args.rig.now in
    let b = V c.send_refusable.new.rig in
    let code = command 0x11 in
    let place = with_checksum (address_bytes address) in
    let count = command (n - 1) in
    let d = V c.send_refusable-2.new.rig in
    let e = V c.send_refusable-3.new.rig in
    let told1 : c.in_ok-send_refusable.field-0 ≡ true = search rules in
    let H1 : Bool → Type 0 = λ t. IsHeldToEnd code (answered_turns t code) a b in
    let held1 = subst H1 told1 c.in_ok-send_refusable.ensures.held in
    let is = (g.met.R.Rig.model c.args.rig.now h).device in
    let h1 = (held1.honestly h).honest in
    let F1 : Bool → Type 0 = λ t. Fed code a.device (owing (answer_byte t ∷ []) b.device) in
    let at1 = code_told address a.device is settled b.device (subst F1 told1 (c.in_ok-send_refusable.ensures.answered h)) in
    let told2 : c.in_ok-send_refusable-2.field-0 ≡ true = search rules in
    let H2 : Bool → Type 0 = λ t. IsHeldToEnd place (answered_turns t place) b d in
    let held2 = subst H2 told2 (rw c.address_step.ensures at c.in_ok-send_refusable-2.ensures.held) in
    let h2 = (held2.honestly h1).honest in
    let F2 : Bool → Type 0 = λ t. Fed place b.device (owing (answer_byte t ∷ []) d.device) in
    let fed2 = subst F2 told2 ((rw c.address_step.ensures at c.in_ok-send_refusable-2.ensures.answered) h1) in
    let at2 = address_told address a.device is settled b.device d.device at1 fed2 in
    let head2 = Holds-append code place (step_turns code) (step_turns place) a b d held1 held2 in
    let told3 : c.in_ok-send_refusable-3.field-0 ≡ false = search rules in
    let H3 : Bool → Type 0 = λ t. IsHeldToEnd count (answered_turns t count) d e in
    let held3 = subst H3 told3 c.in_ok-send_refusable-3.ensures.held in
    let F3 : Bool → Type 0 = λ t. Fed count d.device (owing (answer_byte t ∷ []) e.device) in
    let fed3 = subst F3 told3 (c.in_ok-send_refusable-3.ensures.answered h2) in
    let at3 = count_refused address a.device is settled n c.requires.some at2.0 d.device e.device at2.1 fed3 in
    let all = Holds-append (read_head address) count (address_turns 0x11 address) (refused_turns count) a d e head2 held3 in
    record { sent = frame_sent address n a.device.chip a e at2.0 (part_all (read_frame address n) a e (all.honestly h)); same = at3.1; told = at3.0; fails = tt }

pub returns-in_err-fill-clause-broken : goal.returns-in_err-fill-clause-broken
returns-in_err-fill-clause-broken g c =
    let V = g.R.Rig.view in
    let address = c.args.address in
    let n = length c.args.buf.now in
    let a = V c.args.rig.now in
    let b = V c.send_refusable.new.rig in
    let code = command 0x11 in
    let place = with_checksum (address_bytes address) in
    let count = command (n - 1) in
    let d = V c.send_refusable-2.new.rig in
    let e = V c.send_refusable-3.new.rig in
    let f = V c.fill.new.rig in
    let told1 : c.in_ok-send_refusable.field-0 ≡ true = search rules in
    let H1 : Bool → Type 0 = λ t. IsHeldToEnd code (answered_turns t code) a b in
    let held1 = subst H1 told1 c.in_ok-send_refusable.ensures.held in
    let told2 : c.in_ok-send_refusable-2.field-0 ≡ true = search rules in
    let H2 : Bool → Type 0 = λ t. IsHeldToEnd place (answered_turns t place) b d in
    let held2 = subst H2 told2 (rw c.address_step.ensures at c.in_ok-send_refusable-2.ensures.held) in
    let head2 = Holds-append code place (step_turns code) (step_turns place) a b d held1 held2 in
    let told3 : c.in_ok-send_refusable-3.field-0 ≡ true = search rules in
    let H3 : Bool → Type 0 = λ t. IsHeldToEnd count (answered_turns t count) d e in
    let held3 = subst H3 told3 c.in_ok-send_refusable-3.ensures.held in
    let P : WireFault → Type 0 = λ fault. (answer : List ℕ) × (length answer ≡ n) × BreaksOff fault (read_frame address n) (read_turns address answer) a f in
    let fault = c.in_err-fill.field-0.0 in
    on_fault P c.from_residual-in_err-fill.result fault c.from_residual-in_err-fill.ensures.1
    (read_broken-3 address n a d e f head2 held3 fault c.in_err-fill.ensures.broken)

pub returns-in_err-fill-clause-honest : goal.returns-in_err-fill-clause-honest
returns-in_err-fill-clause-honest g c h settled =
    let V = g.R.Rig.view in
    let address = c.args.address in
    let n = length c.args.buf.now in
    let a = V c.args.rig.now in
    let b = V c.send_refusable.new.rig in
    let code = command 0x11 in
    let place = with_checksum (address_bytes address) in
    let count = command (n - 1) in
    let d = V c.send_refusable-2.new.rig in
    let e = V c.send_refusable-3.new.rig in
    let f = V c.fill.new.rig in
    let told1 : c.in_ok-send_refusable.field-0 ≡ true = search rules in
    let H1 : Bool → Type 0 = λ t. IsHeldToEnd code (answered_turns t code) a b in
    let held1 = subst H1 told1 c.in_ok-send_refusable.ensures.held in
    let is = (g.met.R.Rig.model c.args.rig.now h).device in
    let h1 = (held1.honestly h).honest in
    let F1 : Bool → Type 0 = λ t. Fed code a.device (owing (answer_byte t ∷ []) b.device) in
    let at1 = code_told address a.device is settled b.device (subst F1 told1 (c.in_ok-send_refusable.ensures.answered h)) in
    let told2 : c.in_ok-send_refusable-2.field-0 ≡ true = search rules in
    let H2 : Bool → Type 0 = λ t. IsHeldToEnd place (answered_turns t place) b d in
    let held2 = subst H2 told2 (rw c.address_step.ensures at c.in_ok-send_refusable-2.ensures.held) in
    let h2 = (held2.honestly h1).honest in
    let F2 : Bool → Type 0 = λ t. Fed place b.device (owing (answer_byte t ∷ []) d.device) in
    let fed2 = subst F2 told2 ((rw c.address_step.ensures at c.in_ok-send_refusable-2.ensures.answered) h1) in
    let at2 = address_told address a.device is settled b.device d.device at1 fed2 in
    let head2 = Holds-append code place (step_turns code) (step_turns place) a b d held1 held2 in
    let told3 : c.in_ok-send_refusable-3.field-0 ≡ true = search rules in
    let H3 : Bool → Type 0 = λ t. IsHeldToEnd count (answered_turns t count) d e in
    let held3 = subst H3 told3 c.in_ok-send_refusable-3.ensures.held in
    let F3 : Bool → Type 0 = λ t. Fed count d.device (owing (answer_byte t ∷ []) e.device) in
    let fed3 = subst F3 told3 (c.in_ok-send_refusable-3.ensures.answered h2) in
    let at3 = count_told address a.device is settled n c.requires.some at2.0 d.device e.device at2.1 fed3 in
    let h3 = (held3.honestly h2).honest in
    let can : CanTell address n a.device = at3.0 in
    let many : n ≤ length e.device.owed = rw at3.1 (le_of_eq (sym (length-told address n a.device c.requires.some is can))) in
    let fault = c.in_err-fill.field-0.0 in
    let broken = read_broken-3 address n a d e f head2 held3 fault c.in_err-fill.ensures.broken in
    asked_failed address n _ a f fault c.from_residual-in_err-fill.result c.from_residual-in_err-fill.ensures.1
    (frame_sent address n a.device.chip a f at2.0 (broken.2.honestly h)) (c.in_err-fill.ensures.line h3 many)

pub returns-clause-held : goal.returns-clause-held
returns-clause-held g c =
    let V = g.R.Rig.view in
    let address = c.args.address in
    let n = length c.args.buf.now in
    let a = V c.args.rig.now in
    let b = V c.send_refusable.new.rig in
    let code = command 0x11 in
    let place = with_checksum (address_bytes address) in
    let count = command (n - 1) in
    let d = V c.send_refusable-2.new.rig in
    let e = V c.send_refusable-3.new.rig in
    let f = V c.fill.new.rig in
    let told1 : c.in_ok-send_refusable.field-0 ≡ true = search rules in
    let H1 : Bool → Type 0 = λ t. IsHeldToEnd code (answered_turns t code) a b in
    let held1 = subst H1 told1 c.in_ok-send_refusable.ensures.held in
    let told2 : c.in_ok-send_refusable-2.field-0 ≡ true = search rules in
    let H2 : Bool → Type 0 = λ t. IsHeldToEnd place (answered_turns t place) b d in
    let held2 = subst H2 told2 (rw c.address_step.ensures at c.in_ok-send_refusable-2.ensures.held) in
    let head2 = Holds-append code place (step_turns code) (step_turns place) a b d held1 held2 in
    let told3 : c.in_ok-send_refusable-3.field-0 ≡ true = search rules in
    let H3 : Bool → Type 0 = λ t. IsHeldToEnd count (answered_turns t count) d e in
    let held3 = subst H3 told3 c.in_ok-send_refusable-3.ensures.held in
    let full : length c.fill.new.buf ≡ n = search rules in
    read_held address n a d e f head2 held3 c.fill.new.buf full c.in_ok-fill.ensures.held

pub returns-clause-honest : goal.returns-clause-honest
returns-clause-honest g c h settled =
    let V = g.R.Rig.view in
    let address = c.args.address in
    let n = length c.args.buf.now in
    let a = V c.args.rig.now in
    let b = V c.send_refusable.new.rig in
    let code = command 0x11 in
    let place = with_checksum (address_bytes address) in
    let count = command (n - 1) in
    let d = V c.send_refusable-2.new.rig in
    let e = V c.send_refusable-3.new.rig in
    let f = V c.fill.new.rig in
    let told1 : c.in_ok-send_refusable.field-0 ≡ true = search rules in
    let H1 : Bool → Type 0 = λ t. IsHeldToEnd code (answered_turns t code) a b in
    let held1 = subst H1 told1 c.in_ok-send_refusable.ensures.held in
    let is = (g.met.R.Rig.model c.args.rig.now h).device in
    let h1 = (held1.honestly h).honest in
    let F1 : Bool → Type 0 = λ t. Fed code a.device (owing (answer_byte t ∷ []) b.device) in
    let at1 = code_told address a.device is settled b.device (subst F1 told1 (c.in_ok-send_refusable.ensures.answered h)) in
    let told2 : c.in_ok-send_refusable-2.field-0 ≡ true = search rules in
    let H2 : Bool → Type 0 = λ t. IsHeldToEnd place (answered_turns t place) b d in
    let held2 = subst H2 told2 (rw c.address_step.ensures at c.in_ok-send_refusable-2.ensures.held) in
    let h2 = (held2.honestly h1).honest in
    let F2 : Bool → Type 0 = λ t. Fed place b.device (owing (answer_byte t ∷ []) d.device) in
    let fed2 = subst F2 told2 ((rw c.address_step.ensures at c.in_ok-send_refusable-2.ensures.answered) h1) in
    let at2 = address_told address a.device is settled b.device d.device at1 fed2 in
    let head2 = Holds-append code place (step_turns code) (step_turns place) a b d held1 held2 in
    let told3 : c.in_ok-send_refusable-3.field-0 ≡ true = search rules in
    let H3 : Bool → Type 0 = λ t. IsHeldToEnd count (answered_turns t count) d e in
    let held3 = subst H3 told3 c.in_ok-send_refusable-3.ensures.held in
    let F3 : Bool → Type 0 = λ t. Fed count d.device (owing (answer_byte t ∷ []) e.device) in
    let fed3 = subst F3 told3 (c.in_ok-send_refusable-3.ensures.answered h2) in
    let at3 = count_told address a.device is settled n c.requires.some at2.0 d.device e.device at2.1 fed3 in
    let h3 = (held3.honestly h2).honest in
    let can : CanTell address n a.device = at3.0 in
    let many : n ≤ length e.device.owed = rw at3.1 (le_of_eq (sym (length-told address n a.device c.requires.some is can))) in
    let full : length c.fill.new.buf ≡ n = search rules in
    let all = read_held address n a d e f head2 held3 c.fill.new.buf full c.in_ok-fill.ensures.held in
    let has = has_told address n a.device c.requires.some is can c.fill.new.buf e.device f.device full at3.1 (c.in_ok-fill.ensures.bytes h3) in
    record { sent = frame_sent address n a.device.chip a f at2.0 (part_all (read_frame address n) a f (all.honestly h)); same = has.1; told = (can.readable, has.0); fails = tt }
